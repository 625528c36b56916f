use Rattle.std.proofs.Common.{◌∙◌, sym}
use Rattle.commit_graph.proofs.WalkLemmas.{marked-push}
use Rattle.commit_graph.proofs.walk.Walk.mark.Goals as goal

pub invariant_of-self-in-Ok-insert : goal.invariant_of-self-in-Ok-insert
invariant_of-self-in-Ok-insert c = rw c.in-Ok.ensures.items (marked-push c.self.inside.order.items c.self.inside.seen c.insert.new.self c.args.id c.self.invariant (sym c.contains.ensures ∙ c.if-contains.false) c.in-Ok-insert.ensures.updates.0)
