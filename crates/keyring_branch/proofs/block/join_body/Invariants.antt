use Rattle.std.proofs.Common.{◌≡◌, ◌≤◌, ◌++◌, length}
use Rattle.keyring_branch.specs.ArmourReading.{body_of}
use Rattle.keyring_branch.specs.Lines.{lines_of}
use Rattle.keyring_branch.proofs.block.join_body.Given as goal

abbrev pub invariant-lines : goal.invariant-lines
invariant-lines l = record {
  joined : l.fn.joined ++ (body_of (lines_of l.text)).0 ≡ l.joined ++ (body_of (lines_of l.rest)).0;
  behind : (body_of (lines_of l.text)).1 ≡ (body_of (lines_of l.rest)).1;
  fewer : length (lines_of l.rest) ≤ length (lines_of l.text);
}

abbrev pub decreases-lines : goal.decreases-lines
decreases-lines l = length (lines_of l.rest)
