use Rattle.std.proofs.Common.{ap, ◌∙◌, arith, sym}
use Rattle.std.specs.FinMap as map
use Rattle.commit_graph.proofs.HeldLemmas.{held_yes, held_no, held-put, len-held, same_unranked}
use Rattle.commit_graph.proofs.graph.Graph.add.Goals as goal

pub returns-then-contains_key-clause-cause : goal.returns-then-contains_key-clause-cause
returns-then-contains_key-clause-cause c = held_yes c.self.inside.nodes.entries c.args.self.now.held c.args.id (ap (λ h. h.held) c.self.view_is) (sym c.contains_key.ensures ∙ c.if-contains_key.true)

pub returns-then-len-ge-LIMIT-clause-cause : goal.returns-then-len-ge-LIMIT-clause-cause
returns-then-len-ge-LIMIT-clause-cause c =
    let count = sym (len-held c.self.inside.nodes.entries c.len.ensures.ordered) ∙ ap (λ h. map.len h.held) c.self.view_is in
    (held_no c.self.inside.nodes.entries c.args.self.now.held c.args.id (ap (λ h. h.held) c.self.view_is) (sym c.contains_key.ensures ∙ c.if-contains_key.false), omega (arith, count, c.self.invariant, c.len.ensures.len, c.if-len-ge-LIMIT.true))

pub returns-in_default-clause-cause : goal.returns-in_default-clause-cause
returns-in_default-clause-cause c =
    let count = sym (len-held c.self.inside.nodes.entries c.len.ensures.ordered) ∙ ap (λ h. map.len h.held) c.self.view_is in
    record {
      absent = held_no c.self.inside.nodes.entries c.args.self.now.held c.args.id (ap (λ h. h.held) c.self.view_is) (sym c.contains_key.ensures ∙ c.if-contains_key.false);
      few = omega (arith, count, c.len.ensures.len, c.if-len-ge-LIMIT.false);
    }

pub returns-in_default-insert-clause-cause : goal.returns-in_default-insert-clause-cause
returns-in_default-insert-clause-cause c =
    let count = sym (len-held c.self.inside.nodes.entries c.len.ensures.ordered) ∙ ap (λ h. map.len h.held) c.self.view_is in
    record {
      absent = held_no c.self.inside.nodes.entries c.args.self.now.held c.args.id (ap (λ h. h.held) c.self.view_is) (sym c.contains_key.ensures ∙ c.if-contains_key.false);
      few = omega (arith, count, c.len.ensures.len, c.if-len-ge-LIMIT.false);
    }

pub returns-clause-cause : goal.returns-clause-cause
returns-clause-cause c =
    let count = sym (len-held c.self.inside.nodes.entries c.len.ensures.ordered) ∙ ap (λ h. map.len h.held) c.self.view_is in
    record {
      absent = held_no c.self.inside.nodes.entries c.args.self.now.held c.args.id (ap (λ h. h.held) c.self.view_is) (sym c.contains_key.ensures ∙ c.if-contains_key.false);
      few = omega (arith, count, c.len.ensures.len, c.if-len-ge-LIMIT.false);
    }

pub returns-clause-ok : goal.returns-clause-ok
returns-clause-ok c =
    let put = held-put c.self.inside.nodes.entries c.insert.new.self.entries c.args.id _ c.in-Ok-insert.ensures.updates.0 in
    same_unranked _ _ (put
    ∙ ap (λ h. map.insert h.held c.args.id c.in-Ok.parents) c.self.view_is
    ∙ ap (λ ps. map.insert c.args.self.now.held c.args.id ps) (c.in-Ok.ensures ∙ c.as_slice.ensures))
