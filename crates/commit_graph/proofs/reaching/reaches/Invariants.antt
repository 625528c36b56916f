use Rattle.std.proofs.Common.{◌≡◌, ◌-◌, vec_capacity}
use Rattle.std.specs.FinMap as fin
use Rattle.commit_graph.specs.Node.{held_of}
use Rattle.commit_graph.proofs.ReachingLemmas.{IsReaching}
use Rattle.commit_graph.proofs.reaching.reaches.Given as goal

abbrev pub invariant-loop-i : goal.invariant-loop-i
invariant-loop-i l = IsReaching l.fn.nodes.entries l.nodes.entries l.fn.from l.work.items l.i × (vec_capacity l.work ≡ vec_capacity l.fn.work)

abbrev pub decreases-loop-i : goal.decreases-loop-i
decreases-loop-i l = fin.len (held_of l.fn.nodes.entries) - l.i
