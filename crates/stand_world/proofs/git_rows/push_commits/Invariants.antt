use Rattle.std.proofs.Common.{◌≡◌, ◌++◌, drop}
use Rattle.std.specs.List.{flat_map}
use Rattle.stand_world.specs.World.{commit_rows}
use Rattle.stand_world.proofs.git_rows.push_commits.Given as goal

abbrev pub invariant-loop-commit : goal.invariant-loop-commit
invariant-loop-commit l = l.rows ++ flat_map (commit_rows l.dir) (drop l.commit-index l.commits) ≡ l.fn.rows ++ flat_map (commit_rows l.dir) l.commits
