use Rattle.std.proofs.Common.{◌≡◌, ◌++◌, drop}
use Rattle.std.specs.List.{flat_map}
use Rattle.stand_world.specs.World.{signature_rows}
use Rattle.stand_world.proofs.sig_rows.signature_rows.Given as goal

abbrev pub invariant-loop-commit : goal.invariant-loop-commit
invariant-loop-commit l = l.rows ++ flat_map (signature_rows l.keyring) (drop l.commit-index l.commits) ≡ flat_map (signature_rows l.keyring) l.commits
