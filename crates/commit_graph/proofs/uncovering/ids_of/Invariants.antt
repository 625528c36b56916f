use Rattle.std.proofs.Common.{◌≡◌, map}
use Rattle.std.specs.Map.Iter.{deref}
use Rattle.commit_graph.specs.Uncovering.{Row}
use Rattle.commit_graph.proofs.uncovering.ids_of.Given as goal

abbrev pub invariant-loop-row : goal.invariant-loop-row
invariant-loop-row l = l.ids ≡ map (λ (row : Row). row.1) (map deref l.yielded)
