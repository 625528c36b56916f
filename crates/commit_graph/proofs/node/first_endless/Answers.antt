use Rattle.std.proofs.Common.{◌≢◌, Some, rules, arith, ap, sym, ◌∙◌, inl, inr}
use Rattle.std.proofs.lemmas.List.{get_or_default}
use Rattle.std.specs.List.{slice_index_or}
use Rattle.commit_graph.specs.declared.level.Level.TheVariants.{Endless}
use Rattle.commit_graph.specs.Level.{level_at}
use Rattle.commit_graph.proofs.ClosureLemmas.{at_or_below}
use Rattle.commit_graph.proofs.node.first_endless.Goals as goal

pub loop-id-preserved : goal.loop-id-preserved
loop-id-preserved c = λ j d low e.
    let apart : level_at c.args.nodes.now.entries c.id-item.result ≢ Some Endless = λ is. search (rules, is) in
    elim (at_or_below j c.loop-id.id-index low) [
      | inl before ↦ c.loop-id.invariant j d before e
      | inr same ↦ apart (ap (level_at c.args.nodes.now.entries) (c.id-item.is ∙ get_or_default c.args.ids.now c.loop-id.id-index c.id-item.result d (omega (arith, c.loop-id-test.true)) ∙ ap (λ k. slice_index_or c.args.ids.now k d) (sym same)) ∙ e)
    ]

pub returns : goal.returns
returns c = λ k d low. c.loop-id.invariant k d (omega (arith, low, c.loop-id-test.false))
