use Rattle.std.proofs.Common.{◌≡◌, drop}
use Rattle.std.specs.FinMap as map
use Rattle.child_ports.specs.Keeper.{first_pairs}
use Rattle.child_ports.proofs.memory.pairs.value_of.Given as goal

abbrev pub invariant-loop-pair : goal.invariant-loop-pair
invariant-loop-pair l = map.get (first_pairs (drop l.pair-index l.pairs)) l.key ≡ map.get (first_pairs l.pairs) l.key
