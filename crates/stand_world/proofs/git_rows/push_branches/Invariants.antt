use Rattle.std.proofs.Common.{◌≡◌, ◌++◌, drop}
use Rattle.std.specs.List.{flat_map}
use Rattle.stand_world.specs.World.{branch_rows}
use Rattle.stand_world.proofs.git_rows.push_branches.Given as goal

abbrev pub invariant-loop-branch : goal.invariant-loop-branch
invariant-loop-branch l = l.rows ++ flat_map (branch_rows l.dir) (drop l.branch-index l.branches) ≡ l.fn.rows ++ flat_map (branch_rows l.dir) l.branches
