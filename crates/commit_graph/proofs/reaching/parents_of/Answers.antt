use Rattle.std.proofs.Common.{sym, ◌∙◌}
use Rattle.commit_graph.proofs.ReachingLemmas.{parents_at, parents_none}
use Rattle.commit_graph.proofs.reaching.parents_of.Goals as goal

pub returns-in-Some : goal.returns-in-Some
returns-in-Some c = c.as_slice.ensures ∙ sym (parents_at c.args.nodes.now.entries c.args.id c.in-Some.node.now (sym c.in-Some.ensures.value))

pub returns-in-None : goal.returns-in-None
returns-in-None c = sym (parents_none c.args.nodes.now.entries c.args.id (sym c.in-None.ensures.value))
