use Rattle.std.proofs.Common.{length}
use Rattle.keyring_branch.specs.Lines.{lines_of}
use Rattle.keyring_branch.proofs.ArmourLemmas.{Joined}
use Rattle.keyring_branch.proofs.dearmoring.contents_of.Given as goal

abbrev pub invariant-lines : goal.invariant-lines
invariant-lines l = Joined l.text l.rest l.contents

abbrev pub decreases-lines : goal.decreases-lines
decreases-lines l = length (lines_of l.rest)
