use Rattle.std.proofs.Common.{◌≡◌, ◌++◌, drop}
use Rattle.std.specs.List.{flat_map}
use Rattle.stand_world.specs.World.{key_rows}
use Rattle.stand_world.proofs.git_rows.push_keys.Given as goal

abbrev pub invariant-loop-key : goal.invariant-loop-key
invariant-loop-key l = l.rows ++ flat_map (key_rows l.dir) (drop l.key-index l.keys) ≡ l.fn.rows ++ flat_map (key_rows l.dir) l.keys
