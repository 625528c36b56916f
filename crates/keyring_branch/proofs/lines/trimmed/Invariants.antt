use Rattle.std.proofs.Common.{◌≡◌, length}
use Rattle.keyring_branch.specs.Lines.{trimmed}
use Rattle.keyring_branch.proofs.lines.trimmed.Given as goal

abbrev pub invariant-bytes : goal.invariant-bytes
invariant-bytes l = trimmed l.line ≡ trimmed l.left

abbrev pub decreases-bytes : goal.decreases-bytes
decreases-bytes l = length l.left
