use Rattle.std.proofs.Common.{arith, refl, ◌∙◌}
use Rattle.state_store.proofs.MapLemmas.{put_more}
use Rattle.state_store.proofs.statements.put_each.Goals as goal

pub loop-pair-init : goal.loop-pair-init
loop-pair-init g c = (refl, λ clean. clean, λ clean text inside. record { inside = inside; uncommitted = refl; put = refl })

pub loop-pair-preserved : goal.loop-pair-preserved
loop-pair-preserved g c = (
  c.put.ensures.same_reference ∙ c.loop-pair.invariant.0,
  λ clean. c.loop-pair.invariant.1 (c.put.ensures.clean clean),
  λ clean text inside.
      let was = c.loop-pair.invariant.2 (c.put.ensures.clean clean) text inside in
      let step = c.in_ok-put.ensures.put clean text was.inside in
      let more = put_more c.args.pairs.now c.loop-pair.pair-index c.pair-item.result _ _ _ (omega (arith, c.loop-pair-test.true)) c.pair-item.is was.put step.put in
      record { inside = step.inside; uncommitted = step.uncommitted ∙ was.uncommitted; put = more },
)

pub returns-in_err-put-clause-uncommitted : goal.returns-in_err-put-clause-uncommitted
returns-in_err-put-clause-uncommitted g c up text inside =
    let was = c.loop-pair.invariant.2 (c.put.ensures.clean up.clean) text inside in
    c.put.ensures.uncommitted up was.inside ∙ was.uncommitted
