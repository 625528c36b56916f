use Rattle.std.proofs.Common.{◌≡◌, vec_capacity}
use Rattle.commit_graph.specs.Node.{held_of}
use Rattle.commit_graph.specs.Walk.{parents_in}
use Rattle.commit_graph.proofs.ReachingLemmas.{IsMarking}
use Rattle.commit_graph.proofs.reaching.mark_parents.Given as goal

abbrev pub invariant-loop-i : goal.invariant-loop-i
invariant-loop-i l = IsMarking l.fn.nodes.entries l.nodes.entries l.fn.work.items l.work.items (parents_in (held_of l.fn.nodes.entries) l.fn.id) l.i (vec_capacity l.fn.work) × (vec_capacity l.work ≡ vec_capacity l.fn.work)
