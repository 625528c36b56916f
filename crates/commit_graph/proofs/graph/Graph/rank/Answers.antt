use Rattle.std.proofs.Common.{length, Some, None, ap, sym, subst, ◌∙◌, arith}
use Rattle.std.specs.FinMap as map
use Rattle.commit_graph.specs.History.{IsWhole, IsParent}
use Rattle.commit_graph.specs.Chains.{IsGeneration}
use Rattle.commit_graph.specs.Node.{held_of}
use Rattle.commit_graph.specs.Level.{IsFirstEndless, AreRanked}
use Rattle.commit_graph.proofs.RankedLemmas.{ranking_start, ranking_step, ranked_end, least_cyclic, keys_held, same_history, on_err, kept_bare}
use Rattle.std.specs.List.Sorted.{IsStrictlySortedBy}
use Rattle.commit_graph.specs.History.{name_cmp}
use Rattle.commit_graph.proofs.graph.Graph.rank.Goals as goal

pub loop-id-init : goal.loop-id-init
loop-id-init c = (ranking_start c.args.self.now.held c.self.inside.nodes.entries c.forget_levels.new.nodes.entries c.deref-id-items.result.now c.clear.new.self.items (ap (λ h. h.held) c.self.view_is) c.self.invariant.few c.forget_levels.ensures c.clear.ensures.items, c.if-self.false)

pub settle-requires-clause-whole : goal.settle-requires-clause-whole
settle-requires-clause-whole c = subst IsWhole (sym c.loop-id.invariant.0.same) c.in_default.ensures

pub invariant_of-self : goal.invariant_of-self
invariant_of-self c = kept_bare c.settle.new.nodes.entries c.loop-id.self-inside.ranked _ (omega (arith, c.settle.ensures.size, c.loop-id.invariant.0.levels.small.0)) c.loop-id.invariant.1

pub returns-in_err-settle-clause-err : goal.returns-in_err-settle-clause-err
returns-in_err-settle-clause-err c = on_err c.from_residual.result _ (same_history (held_of c.settle.new.nodes.entries) c.loop-id.self-inside.ranked c.args.self.now (c.settle.ensures.held ∙ c.loop-id.invariant.0.same) (c.loop-id.invariant.1 ∙ sym c.if-self.false ∙ ap (λ h. h.ranked) c.self.view_is))

pub loop-id-preserved : goal.loop-id-preserved
loop-id-preserved c = (ranking_step c.args.self.now.held c.loop-id.self-inside.nodes.entries c.settle.new.nodes.entries c.deref-id-items.result.now c.loop-id.self-inside.work.items c.settle.new.trail.items c.loop-id.id-index c.id-item.result c.loop-id.invariant.0 (omega (arith, c.loop-id-test.true)) c.id-item.is c.in_ok-settle.ensures.ok c.in_ok-settle.ensures.trail, c.loop-id.invariant.1)

pub invariant_of-self-in-Some-first_endless : goal.invariant_of-self-in-Some-first_endless
invariant_of-self-in-Some-first_endless c = kept_bare c.loop-id.self-inside.nodes.entries c.loop-id.self-inside.ranked _ c.loop-id.invariant.0.levels.small.0 c.loop-id.invariant.1

pub returns-in-Some-first_endless-clause-err : goal.returns-in-Some-first_endless-clause-err
returns-in-Some-first_endless-clause-err c = same_history (held_of c.loop-id.self-inside.nodes.entries) c.loop-id.self-inside.ranked c.args.self.now c.loop-id.invariant.0.same (c.loop-id.invariant.1 ∙ sym c.if-self.false ∙ ap (λ h. h.ranked) c.self.view_is)

pub returns-in-Some-first_endless-clause-cause : goal.returns-in-Some-first_endless-clause-cause
returns-in-Some-first_endless-clause-cause c =
    let keys = keys_held c.args.self.now.held c.self.inside.nodes.entries c.deref-id-items.result.now (ap (λ h. h.held) c.self.view_is) (c.deref-id-items.ensures.value ∙ c.in-Ok.ensures.ids) in
    let sorted : IsStrictlySortedBy name_cmp c.deref-id-items.result.now = subst (IsStrictlySortedBy name_cmp) (sym (c.deref-id-items.ensures.value ∙ c.in-Ok.ensures.ids)) c.ids_held.ensures.ordered in (
      c.in_default.ensures,
      least_cyclic c.args.self.now.held c.loop-id.self-inside.nodes.entries c.deref-id-items.result.now c.loop-id.self-inside.work.items c.loop-id.id-index c.in-Some-first_endless.id c.loop-id.invariant.0 keys sorted (omega (arith, c.loop-id-test.false))
          (subst (λ ids. IsFirstEndless c.loop-id.self-inside.nodes.entries ids (Some c.in-Some-first_endless.id)) (c.as_slice.ensures.value ∙ sym c.deref-id-items.ensures.value) c.in-Some-first_endless.ensures),
    )

pub invariant_of-self-in_default-reserve : goal.invariant_of-self-in_default-reserve
invariant_of-self-in_default-reserve c = kept_bare c.loop-id.self-inside.nodes.entries c.loop-id.self-inside.ranked _ c.loop-id.invariant.0.levels.small.0 c.loop-id.invariant.1

pub returns-in_default-reserve-clause-err : goal.returns-in_default-reserve-clause-err
returns-in_default-reserve-clause-err c = same_history (held_of c.loop-id.self-inside.nodes.entries) c.loop-id.self-inside.ranked c.args.self.now c.loop-id.invariant.0.same (c.loop-id.invariant.1 ∙ sym c.if-self.false ∙ ap (λ h. h.ranked) c.self.view_is)

pub invariant_of-self-2 : goal.invariant_of-self-2
invariant_of-self-2 c =
    let keys = keys_held c.args.self.now.held c.self.inside.nodes.entries c.deref-id-items.result.now (ap (λ h. h.held) c.self.view_is) (c.deref-id-items.ensures.value ∙ c.in-Ok.ensures.ids) in
    record {
      few = c.loop-id.invariant.0.levels.small.0;
      ranks = λ yes. ranked_end c.args.self.now.held c.loop-id.self-inside.nodes.entries c.deref-id-items.result.now c.loop-id.self-inside.work.items c.loop-id.id-index _ c.in_default.ensures c.loop-id.invariant.0 keys (omega (arith, c.loop-id-test.false))
          (subst (λ ids. IsFirstEndless c.loop-id.self-inside.nodes.entries ids None) (c.as_slice.ensures.value ∙ sym c.deref-id-items.ensures.value) c.in_default-first_endless.ensures)
          (omega (arith, c.in-Ok-reserve.ensures.ok, c.len.ensures.len));
    }

pub returns-clause-acyclic : goal.returns-clause-acyclic
returns-clause-acyclic c = λ id holds.
    let keys = keys_held c.args.self.now.held c.self.inside.nodes.entries c.deref-id-items.result.now (ap (λ h. h.held) c.self.view_is) (c.deref-id-items.ensures.value ∙ c.in-Ok.ensures.ids) in
    let ranked : AreRanked c.loop-id.self-inside.nodes.entries (length c.loop-id.self-inside.nodes.entries) = ranked_end c.args.self.now.held c.loop-id.self-inside.nodes.entries c.deref-id-items.result.now c.loop-id.self-inside.work.items c.loop-id.id-index _ c.in_default.ensures c.loop-id.invariant.0 keys (omega (arith, c.loop-id-test.false))
    (subst (λ ids. IsFirstEndless c.loop-id.self-inside.nodes.entries ids None) (c.as_slice.ensures.value ∙ sym c.deref-id-items.ensures.value) c.in_default-first_endless.ensures)
    (omega arith) in
    let known = ranked.known id (ap (λ h. map.contains_key h id) c.loop-id.invariant.0.same ∙ holds) in
    (known.0, subst (λ h. IsGeneration (IsParent h) id known.0) c.loop-id.invariant.0.same known.2)
