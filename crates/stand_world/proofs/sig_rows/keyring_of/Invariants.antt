use Rattle.std.proofs.Common.{◌≡◌, ◌++◌, drop}
use Rattle.stand_world.specs.World.{keyring_of}
use Rattle.stand_world.proofs.sig_rows.keyring_of.Given as goal

abbrev pub invariant-loop-key : goal.invariant-loop-key
invariant-loop-key l = l.keyring ++ keyring_of (drop l.key-index l.keys) ≡ keyring_of l.keys
