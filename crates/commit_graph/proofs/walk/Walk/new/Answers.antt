use Rattle.commit_graph.proofs.WalkLemmas.{marked-none}
use Rattle.commit_graph.proofs.walk.Walk.new.Goals as goal

pub invariant_of-result : goal.invariant_of-result
invariant_of-result c = rw c.new.ensures.items (marked-none c.new-2.result c.new-2.ensures.empty)
