use Rattle.std.proofs.Common.{◌≤◌, [], ◌∷◌, length, MatchOption}
use Rattle.commit_objects.specs.Form.{sha1_form}
use Rattle.commit_objects.specs.Faults.{BeginsWith}
use Rattle.commit_objects.specs.Headers.{UnsignedTo, SignedTo}
use Rattle.commit_objects.proofs.headers.read_headers.Given as goal

abbrev pub invariant-headers : goal.invariant-headers
invariant-headers l = record {
  so_far : MatchOption l.signed (UnsignedTo sha1_form l.fn.text l.rest) (λ s. SignedTo sha1_form l.fn.text s.before.now s.value.now s.more.now s.after.now l.rest);
  no_space : BeginsWith (32 ∷ []) l.rest → ⊥;
  within : length l.rest ≤ length l.fn.text;
}

abbrev pub decreases-headers : goal.decreases-headers
decreases-headers l = length l.rest
