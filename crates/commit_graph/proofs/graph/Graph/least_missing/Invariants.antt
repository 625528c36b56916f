use Rattle.std.proofs.Common.{◌≡◌, map, fold, None}
use Rattle.std.specs.Map.Iter.{deref_pair}
use Rattle.commit_graph.specs.Level.{lower}
use Rattle.commit_graph.proofs.graph.Graph.least_missing.Given as goal

abbrev pub invariant-loop-node : goal.invariant-loop-node
invariant-loop-node l = l.least ≡ fold (λ least e. fold (lower l.self-inside.nodes.entries) least e.1.parents) None (map deref_pair l.yielded)
