use Rattle.std.proofs.Common.{◌≡◌, false}
use Rattle.commit_graph.proofs.RankedLemmas.{IsRanking}
use Rattle.commit_graph.proofs.graph.Graph.rank.Given as goal

abbrev pub invariant-loop-id : goal.invariant-loop-id
invariant-loop-id l = IsRanking l.fn.self.held l.self-inside.nodes.entries l.id-items l.self-inside.work.items l.id-index × (l.self-inside.ranked ≡ false)
