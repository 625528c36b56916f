use Rattle.std.proofs.Common.{◌-◌}
use Rattle.std.specs.FinMap as map
use Rattle.commit_graph.specs.Walk.{IsWalk}
use Rattle.commit_graph.proofs.graph.Graph.closure.Given as goal

abbrev pub invariant-loop-i : goal.invariant-loop-i
invariant-loop-i l = IsWalk l.self.held l.ids l.walk l.i

abbrev pub decreases-loop-i : goal.decreases-loop-i
decreases-loop-i l = map.len l.self.held - l.i
