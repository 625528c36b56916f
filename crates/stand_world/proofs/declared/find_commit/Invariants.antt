use Rattle.std.proofs.Common.{◌≡◌, drop}
use Rattle.stand_world.specs.Script.{commit_named}
use Rattle.stand_world.proofs.declared.find_commit.Given as goal

abbrev pub invariant-loop-commit : goal.invariant-loop-commit
invariant-loop-commit l = commit_named l.commits l.name ≡ commit_named (drop l.commit-index l.commits) l.name
