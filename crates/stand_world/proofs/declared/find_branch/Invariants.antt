use Rattle.std.proofs.Common.{◌≡◌, drop}
use Rattle.stand_world.specs.Script.{branch_named}
use Rattle.stand_world.proofs.declared.find_branch.Given as goal

abbrev pub invariant-loop-branch : goal.invariant-loop-branch
invariant-loop-branch l = branch_named l.branches l.name ≡ branch_named (drop l.branch-index l.branches) l.name
