use Rattle.commit_graph.proofs.StepLemmas.{Sofar}
use Rattle.commit_graph.proofs.node.step_by_all.Given as goal

abbrev pub invariant-loop-parent : goal.invariant-loop-parent
invariant-loop-parent l = Sofar l.nodes.entries l.parent-items l.parent-index l.greatest
