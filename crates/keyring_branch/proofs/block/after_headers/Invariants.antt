use Rattle.std.proofs.Common.{◌≡◌, ◌≤◌, length}
use Rattle.keyring_branch.specs.ArmourReading.{after_headers}
use Rattle.keyring_branch.specs.Lines.{lines_of}
use Rattle.keyring_branch.proofs.block.after_headers.Given as goal

abbrev pub invariant-lines : goal.invariant-lines
invariant-lines l = record {
  behind : after_headers (lines_of l.text) ≡ after_headers (lines_of l.rest);
  fewer : length (lines_of l.rest) ≤ length (lines_of l.text);
}

abbrev pub decreases-lines : goal.decreases-lines
decreases-lines l = length (lines_of l.rest)
