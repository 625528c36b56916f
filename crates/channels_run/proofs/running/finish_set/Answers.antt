use Rattle.std.proofs.Common.{◌≡◌, ◌⊎◌, inl, inr, ℕ, List, ap, refl, subst, ◌∙◌}
use Rattle.child_ports.specs.Keeper.{Kept, with_pairs}
use Rattle.run_answers.specs.declared.finishing.Ending.{Ending}
use Rattle.run_answers.specs.Answers.{Answer}
use Rattle.run_answers.specs.Ended.{IsFinished, Shows, StoresOnce, stored, sunk}
use Rattle.run_answers.specs.Faults.{ends}
use Rattle.run_answers.proofs.FinishLemmas.{no_room, other_fault}
use Rattle.channels_run.specs.Answers.{set_ending}
use Rattle.channels_run.proofs.running.finish_set.Goals as goal

pub returns-in_default-clause-answer : goal.returns-in_default-clause-answer
returns-in_default-clause-answer g c = λ keeper out err.
    let kept = g.K.Keeper.kept c.args.keeper.now in
    let failed = g.K.Keeper.faults c.args.keeper.now in
    no_room (set_ending c.args.verdict) kept failed (sunk (g.O.Sink.taken c.args.out.now) (g.O.Sink.faults c.args.out.now)) (sunk (g.E.Sink.taken c.args.err.now) (g.E.Sink.faults c.args.err.now))
    c.tell.result (stored kept failed) (sunk (g.E.Sink.taken c.tell.new.err) (g.E.Sink.faults c.tell.new.err)) c.tell.ensures.status refl (c.tell.ensures.put err)

pub returns-clause-answer : goal.returns-clause-answer
returns-clause-answer g c = λ keeper out err.
    let kept = g.K.Keeper.kept c.args.keeper.now in
    let failed = g.K.Keeper.faults c.args.keeper.now in
    let later = stored (g.K.Keeper.kept c.finish.new.keeper) (g.K.Keeper.faults c.finish.new.keeper) in
    subst (λ (ending : Ending). (answer : Answer) × IsFinished kept ending failed later.failed answer × Shows answer c.finish.result (stored kept failed) later
    (sunk (g.O.Sink.taken c.args.out.now) (g.O.Sink.faults c.args.out.now)) (sunk (g.O.Sink.taken c.finish.new.out) (g.O.Sink.faults c.finish.new.out))
    (sunk (g.E.Sink.taken c.args.err.now) (g.E.Sink.faults c.args.err.now)) (sunk (g.E.Sink.taken c.finish.new.err) (g.E.Sink.faults c.finish.new.err))) c.in-Ok.ensures (c.finish.ensures.answer keeper out err)

pub returns-clause-fault : goal.returns-clause-fault
returns-clause-fault g c = other_fault _ (Unit {0}) c.finish.result _ _ (λ warned. tt) c.finish.ensures.fault

pub returns-clause-keeps : goal.returns-clause-keeps
returns-clause-keeps g c = λ keeper after.
    subst (λ (ending : Ending). (g.K.Keeper.kept c.finish.new.keeper ≡ g.K.Keeper.kept c.args.keeper.now) ⊎ (g.K.Keeper.kept c.finish.new.keeper ≡ with_pairs (g.K.Keeper.kept c.args.keeper.now) ending.store)) c.in-Ok.ensures (c.finish.ensures.keeps keeper after)

pub returns-in_default-clause-stores : goal.returns-in_default-clause-stores
returns-in_default-clause-stores g c = inr (refl, c.tell.ensures.status)

pub returns-clause-stores : goal.returns-clause-stores
returns-clause-stores g c =
    inl (subst (λ (ending : Ending). StoresOnce ending.store (g.K.Keeper.stores c.args.keeper.now) (g.K.Keeper.stores c.finish.new.keeper)) c.in-Ok.ensures c.finish.ensures.stores)
