use Rattle.std.proofs.Common.{◌≡◌, drop}
use Rattle.stand_world.specs.Script.{key_named}
use Rattle.stand_world.proofs.declared.find_key.Given as goal

abbrev pub invariant-loop-key : goal.invariant-loop-key
invariant-loop-key l = key_named l.keys l.name ≡ key_named (drop l.key-index l.keys) l.name
