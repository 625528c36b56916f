use Rattle.std.proofs.Common.{◌≡◌, ◌++◌, drop}
use Rattle.std.specs.List.{flat_map}
use Rattle.stand_world.specs.World.{key_entry}
use Rattle.stand_world.proofs.git_rows.push_key_entries.Given as goal

abbrev pub invariant-loop-key : goal.invariant-loop-key
invariant-loop-key l = l.tree ++ flat_map key_entry (drop l.key-index l.keys) ≡ l.fn.tree ++ flat_map key_entry l.keys
