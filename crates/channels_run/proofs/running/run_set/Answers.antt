use Rattle.std.proofs.Common.{◌≡◌, ◌⊎◌, inl, inr, ◌∙◌, ℕ, Ok, Err, refl, sym, ap, subst}
use Rattle.std.specs.Prelude.{IsTrue}
use Rattle.child_ports.specs.Keeper.{Kept, with_pairs}
use Rattle.channel_deps.specs.declared.set.SetTask.{SetTask}
use Rattle.channel_deps.specs.declared.set.SetVerdict.{SetVerdict}
use Rattle.channel_deps.specs.declared.set_fail.SetFail.TheVariants.{Memory}
use Rattle.channel_deps.specs.Answers.{OnFinding}
use Rattle.channel_deps.specs.Asked.{AsksSet}
use Rattle.channel_deps.specs.Over.{IsSetVerdictOver}
use Rattle.channel_deps.specs.Outcome.{IsSetOutcome, AreSoundOrNone}
use Rattle.channel_deps.proofs.LawLemmas.{caches_sound}
use Rattle.channel_deps.specs.Outside.{outside}
use Rattle.run_answers.specs.Answers.{Answer}
use Rattle.run_answers.specs.Ended.{stored, sunk, IsFinished, Shows}
use Rattle.run_answers.specs.Faults.{counts, ends, IsEndFault}
use Rattle.channels_run.specs.Answers.{set_for, set_ending}
use Rattle.channels_run.proofs.PutLemmas.{ended_stored}
use Rattle.channels_run.proofs.SetRunLemmas.{refusal_is, refusal_shown, out_of_memory, finished, told_status, child_fault_of, end_fault_of, no_child_fault, only_memory}
use Rattle.channels_run.proofs.SoundLemmas.{refused_complete, accepted_complete, memory_complete}
use Rattle.channels_run.proofs.running.run_set.Goals as goal

-- ---- no set could be made

pub returns-in_default-clause-answer : goal.returns-in_default-clause-answer
returns-in_default-clause-answer g c = λ git gpgv keeper out err sound.
    let o = outside (g.G.GitPort.table c.args.git.now) (g.V.SigPort.table c.args.gpgv.now) (g.K.Keeper.kept c.args.keeper.now) in
    let same = counts (g.G.GitPort.faults c.args.git.now) (g.V.SigPort.faults c.args.gpgv.now) (g.K.Keeper.faults c.args.keeper.now) in
    out_of_memory o c.args.plan.now c.args.channels same same c.tell_set_refusal.result (stored o.kept same.keeper)
    (sunk (g.O.Sink.taken c.args.out.now) (g.O.Sink.faults c.args.out.now)) (sunk (g.E.Sink.taken c.args.err.now) (g.E.Sink.faults c.args.err.now))
    (sunk (g.E.Sink.taken c.tell_set_refusal.new.err) (g.E.Sink.faults c.tell_set_refusal.new.err)) refl (c.tell_set_refusal.ensures.shown err)

pub returns-in_default-clause-accepted : goal.returns-in_default-clause-accepted
returns-in_default-clause-accepted g c = λ git gpgv keeper sound zero. absurd ((told_status Memory c.tell_set_refusal.result tt c.tell_set_refusal.ensures.status).0 zero)

pub returns-in_default-clause-complete : goal.returns-in_default-clause-complete
returns-in_default-clause-complete g c = λ git gpgv keeper sound has. memory_complete c.tell_set_refusal.result c.tell_set_refusal.ensures.status

pub returns-in_default-clause-end_fault : goal.returns-in_default-clause-end_fault
returns-in_default-clause-end_fault g c = end_fault_of Memory c.tell_set_refusal.result _ _ _ _ _ tt c.tell_set_refusal.ensures.keeper_fault (told_status Memory c.tell_set_refusal.result tt c.tell_set_refusal.ensures.status).0 refl

pub returns-in_default-clause-no_words : goal.returns-in_default-clause-no_words
returns-in_default-clause-no_words g c = (told_status Memory c.tell_set_refusal.result tt c.tell_set_refusal.ensures.status).1

-- ---- the set wasn't accepted

pub returns-clause-answer : goal.returns-clause-answer
returns-clause-answer g c = λ git gpgv keeper out err sound.
    let o = outside (g.G.GitPort.table c.args.git.now) (g.V.SigPort.table c.args.gpgv.now) (g.K.Keeper.kept c.args.keeper.now) in
    let fail = c.in-Err.fail in
    let before = counts (g.G.GitPort.faults c.args.git.now) (g.V.SigPort.faults c.args.gpgv.now) (g.K.Keeper.faults c.args.keeper.now) in
    let now = counts (g.G.GitPort.faults c.authenticate_set.new.git) (g.V.SigPort.faults c.authenticate_set.new.sig) (g.K.Keeper.faults c.authenticate_set.new.keeper) in
    let outcome = subst (λ (s : SetTask). AreSoundOrNone o s → OnFinding {T = SetVerdict} (Err fail) (IsSetOutcome o s (Err fail))) c.in-Ok.ensures (c.in-Err.ensures.outcome git gpgv keeper) sound in
    refusal_shown o c.args.plan.now c.args.channels before now c.tell_set_refusal-in-Err.result (stored (g.K.Keeper.kept c.authenticate_set.new.keeper) now.keeper)
    (sunk (g.O.Sink.taken c.args.out.now) (g.O.Sink.faults c.args.out.now)) (sunk (g.E.Sink.taken c.args.err.now) (g.E.Sink.faults c.args.err.now))
    (sunk (g.E.Sink.taken c.tell_set_refusal-in-Err.new.err) (g.E.Sink.faults c.tell_set_refusal-in-Err.new.err)) c.in-Err.ensures.kept fail
    (refusal_is o c.args.plan.now c.args.channels before now fail outcome c.in-Err.ensures.git_fault c.in-Err.ensures.sig_fault c.in-Err.ensures.keep_fault)
    (c.tell_set_refusal-in-Err.ensures.shown err)

pub returns-clause-accepted : goal.returns-clause-accepted
returns-clause-accepted g c = λ git gpgv keeper sound zero. absurd ((told_status c.in-Err.fail c.tell_set_refusal-in-Err.result c.in-Err.ensures.plain c.tell_set_refusal-in-Err.ensures.status).0 zero)

pub returns-clause-complete : goal.returns-clause-complete
returns-clause-complete g c = λ git gpgv keeper sound has.
    let o = outside (g.G.GitPort.table c.args.git.now) (g.V.SigPort.table c.args.gpgv.now) (g.K.Keeper.kept c.args.keeper.now) in
    let s = set_for c.args.plan.now c.args.channels in
    let fail = c.in-Err.fail in
    let outcome = subst (λ (s : SetTask). AreSoundOrNone o s → OnFinding {T = SetVerdict} (Err fail) (IsSetOutcome o s (Err fail))) c.in-Ok.ensures (c.in-Err.ensures.outcome git gpgv keeper) (caches_sound o s sound) in
    refused_complete o s fail c.tell_set_refusal-in-Err.result c.in-Err.ensures.plain sound has outcome c.tell_set_refusal-in-Err.ensures.status

pub returns-clause-child_fault : goal.returns-clause-child_fault
returns-clause-child_fault g c = child_fault_of c.in-Err.fail c.tell_set_refusal-in-Err.result _ _ _ _ c.in-Err.ensures.plain c.tell_set_refusal-in-Err.ensures.fault c.in-Err.ensures.git_fault c.in-Err.ensures.sig_fault

pub returns-clause-end_fault : goal.returns-clause-end_fault
returns-clause-end_fault g c = end_fault_of c.in-Err.fail c.tell_set_refusal-in-Err.result _ _ _ _ _ c.in-Err.ensures.plain c.tell_set_refusal-in-Err.ensures.keeper_fault
    (told_status c.in-Err.fail c.tell_set_refusal-in-Err.result c.in-Err.ensures.plain c.tell_set_refusal-in-Err.ensures.status).0 c.in-Err.ensures.keep_fault

pub returns-clause-no_words : goal.returns-clause-no_words
returns-clause-no_words g c = (told_status c.in-Err.fail c.tell_set_refusal-in-Err.result c.in-Err.ensures.plain c.tell_set_refusal-in-Err.ensures.status).1

pub returns-clause-keeps : goal.returns-clause-keeps
returns-clause-keeps g c = λ git gpgv keeper after sound. inl c.in-Err.ensures.kept

-- ---- it was accepted

pub returns-in-Ok-authenticate_set-clause-answer : goal.returns-in-Ok-authenticate_set-clause-answer
returns-in-Ok-authenticate_set-clause-answer g c = λ git gpgv keeper out err sound.
    let o = outside (g.G.GitPort.table c.args.git.now) (g.V.SigPort.table c.args.gpgv.now) (g.K.Keeper.kept c.args.keeper.now) in
    let kept = g.K.Keeper.kept c.args.keeper.now in
    let verdict = c.in-Ok-authenticate_set.verdict in
    let before = counts (g.G.GitPort.faults c.args.git.now) (g.V.SigPort.faults c.args.gpgv.now) (g.K.Keeper.faults c.args.keeper.now) in
    let now = counts (g.G.GitPort.faults c.authenticate_set.new.git) (g.V.SigPort.faults c.authenticate_set.new.sig) (g.K.Keeper.faults c.finish_set.new.keeper) in
    let out_before = sunk (g.O.Sink.taken c.args.out.now) (g.O.Sink.faults c.args.out.now) in
    let out_now = sunk (g.O.Sink.taken c.finish_set.new.out) (g.O.Sink.faults c.finish_set.new.out) in
    let err_before = sunk (g.E.Sink.taken c.args.err.now) (g.E.Sink.faults c.args.err.now) in
    let err_now = sunk (g.E.Sink.taken c.finish_set.new.err) (g.E.Sink.faults c.finish_set.new.err) in
    let later = stored (g.K.Keeper.kept c.finish_set.new.keeper) (g.K.Keeper.faults c.finish_set.new.keeper) in
    let mid = g.K.Keeper.faults c.authenticate_set.new.keeper in
    let outcome = subst (λ (s : SetTask). AreSoundOrNone o s → IsSetOutcome o s (Ok verdict)) c.in-Ok.ensures (c.in-Ok-authenticate_set.ensures.outcome git gpgv keeper) sound in
    let told = subst IsTrue (sym c.in-Ok-authenticate_set.ensures.keeper_told) keeper in
    let ended = subst (λ (k : Kept). (answer : Answer) × IsFinished k (set_ending verdict) mid now.keeper answer × Shows answer c.finish_set.result (stored k mid) later out_before out_now err_before err_now) c.in-Ok-authenticate_set.ensures.kept
    (c.finish_set.ensures.answer told out err) in
    let first = subst (λ (n : ℕ). (answer : Answer) × IsFinished kept (set_ending verdict) n now.keeper answer × Shows answer c.finish_set.result (stored kept n) later out_before out_now err_before err_now) c.in-Ok-authenticate_set.ensures.keep_fault ended in
    (first.0, finished o c.args.plan.now c.args.channels before now verdict first.0 outcome first.1, first.2)

pub returns-in-Ok-authenticate_set-clause-accepted : goal.returns-in-Ok-authenticate_set-clause-accepted
returns-in-Ok-authenticate_set-clause-accepted g c = λ git gpgv keeper sound zero.
    let o = outside (g.G.GitPort.table c.args.git.now) (g.V.SigPort.table c.args.gpgv.now) (g.K.Keeper.kept c.args.keeper.now) in
    let verdict = c.in-Ok-authenticate_set.verdict in
    (verdict, subst (λ (s : SetTask). AreSoundOrNone o s → IsSetOutcome o s (Ok verdict)) c.in-Ok.ensures (c.in-Ok-authenticate_set.ensures.outcome git gpgv keeper) sound)

pub returns-in-Ok-authenticate_set-clause-complete : goal.returns-in-Ok-authenticate_set-clause-complete
returns-in-Ok-authenticate_set-clause-complete g c = λ git gpgv keeper sound has. accepted_complete c.finish_set.result c.finish_set.ensures.status

pub returns-in-Ok-authenticate_set-clause-child_fault : goal.returns-in-Ok-authenticate_set-clause-child_fault
returns-in-Ok-authenticate_set-clause-child_fault g c = no_child_fault c.finish_set.result _ _ _ _ c.finish_set.ensures.status c.in-Ok-authenticate_set.ensures.git_fault c.in-Ok-authenticate_set.ensures.sig_fault

pub returns-in-Ok-authenticate_set-clause-end_fault : goal.returns-in-Ok-authenticate_set-clause-end_fault
returns-in-Ok-authenticate_set-clause-end_fault g c =
    subst (λ (n : ℕ). IsEndFault (Unit {0}) c.finish_set.result (ends n (g.O.Sink.faults c.args.out.now) (g.E.Sink.faults c.args.err.now))
    (ends (g.K.Keeper.faults c.finish_set.new.keeper) (g.O.Sink.faults c.finish_set.new.out) (g.E.Sink.faults c.finish_set.new.err))) c.in-Ok-authenticate_set.ensures.keep_fault c.finish_set.ensures.fault

pub returns-in-Ok-authenticate_set-clause-unchanged : goal.returns-in-Ok-authenticate_set-clause-unchanged
returns-in-Ok-authenticate_set-clause-unchanged g c = λ keeper after no_zero no_five.
    let told = subst IsTrue (sym c.in-Ok-authenticate_set.ensures.keeper_told) keeper in
    c.finish_set.ensures.unchanged told after (only_memory c.finish_set.result c.finish_set.ensures.status no_zero no_five) ∙ c.in-Ok-authenticate_set.ensures.kept

pub returns-in-Ok-authenticate_set-clause-keeps : goal.returns-in-Ok-authenticate_set-clause-keeps
returns-in-Ok-authenticate_set-clause-keeps g c = λ git gpgv keeper after sound.
    let o = outside (g.G.GitPort.table c.args.git.now) (g.V.SigPort.table c.args.gpgv.now) (g.K.Keeper.kept c.args.keeper.now) in
    let verdict = c.in-Ok-authenticate_set.verdict in
    let outcome = subst (λ (s : SetTask). AreSoundOrNone o s → IsSetOutcome o s (Ok verdict)) c.in-Ok.ensures (c.in-Ok-authenticate_set.ensures.outcome git gpgv keeper) sound in
    let told = subst IsTrue (sym c.in-Ok-authenticate_set.ensures.keeper_told) keeper in
    elim (c.finish_set.ensures.keeps told after) [
      | inl same ↦ inl (same ∙ c.in-Ok-authenticate_set.ensures.kept)
      | inr put ↦ inr (verdict, outcome, put ∙ ap (λ (k : Kept). with_pairs k verdict.store) c.in-Ok-authenticate_set.ensures.kept)
    ]

-- ---- what is put, how often the store is called, and the questions

pub returns-in_default-clause-puts : goal.returns-in_default-clause-puts
returns-in_default-clause-puts g c = λ git gpgv keeper after. inl refl

pub returns-in_default-clause-stores : goal.returns-in_default-clause-stores
returns-in_default-clause-stores g c = λ git gpgv keeper. inl (refl, (told_status Memory c.tell_set_refusal.result tt c.tell_set_refusal.ensures.status).0)

pub returns-in_default-clause-asked : goal.returns-in_default-clause-asked
returns-in_default-clause-asked g c = λ git gpgv keeper. (Err Memory, λ sound. tt, inl (refl, refl), c.tell_set_refusal.ensures.status)

pub returns-clause-puts : goal.returns-clause-puts
returns-clause-puts g c = λ git gpgv keeper after. inl c.in-Err.ensures.kept

pub returns-clause-stores : goal.returns-clause-stores
returns-clause-stores g c = λ git gpgv keeper.
    inl (c.in-Err.ensures.stores, (told_status c.in-Err.fail c.tell_set_refusal-in-Err.result c.in-Err.ensures.plain c.tell_set_refusal-in-Err.ensures.status).0)

pub returns-clause-asked : goal.returns-clause-asked
returns-clause-asked g c = λ git gpgv keeper.
    let o = outside (g.G.GitPort.table c.args.git.now) (g.V.SigPort.table c.args.gpgv.now) (g.K.Keeper.kept c.args.keeper.now) in
    let fail = c.in-Err.fail in (
      Err fail,
      subst (λ (s : SetTask). AreSoundOrNone o s → OnFinding {T = SetVerdict} (Err fail) (IsSetOutcome o s (Err fail))) c.in-Ok.ensures (c.in-Err.ensures.outcome git gpgv keeper),
      subst (λ (s : SetTask). AsksSet o s (Err fail) (g.V.SigPort.asked c.args.gpgv.now) (g.V.SigPort.asked c.authenticate_set.new.sig)) c.in-Ok.ensures (c.in-Err.ensures.asked git gpgv keeper),
      c.tell_set_refusal-in-Err.ensures.status,
    )

pub returns-in-Ok-authenticate_set-clause-puts : goal.returns-in-Ok-authenticate_set-clause-puts
returns-in-Ok-authenticate_set-clause-puts g c = λ git gpgv keeper after.
    let o = outside (g.G.GitPort.table c.args.git.now) (g.V.SigPort.table c.args.gpgv.now) (g.K.Keeper.kept c.args.keeper.now) in
    let verdict = c.in-Ok-authenticate_set.verdict in
    let over = subst (λ (s : SetTask). IsSetVerdictOver o s verdict) c.in-Ok.ensures (c.in-Ok-authenticate_set.ensures.verdict git gpgv keeper) in
    let told = subst IsTrue (sym c.in-Ok-authenticate_set.ensures.keeper_told) keeper in
    elim (c.finish_set.ensures.keeps told after) [
      | inl same ↦ inl (same ∙ c.in-Ok-authenticate_set.ensures.kept)
      | inr put ↦ inr (verdict, over, put ∙ ap (λ (k : Kept). with_pairs k verdict.store) c.in-Ok-authenticate_set.ensures.kept)
    ]

pub returns-in-Ok-authenticate_set-clause-stores : goal.returns-in-Ok-authenticate_set-clause-stores
returns-in-Ok-authenticate_set-clause-stores g c = λ git gpgv keeper.
    let o = outside (g.G.GitPort.table c.args.git.now) (g.V.SigPort.table c.args.gpgv.now) (g.K.Keeper.kept c.args.keeper.now) in
    let verdict = c.in-Ok-authenticate_set.verdict in
    let over = subst (λ (s : SetTask). IsSetVerdictOver o s verdict) c.in-Ok.ensures (c.in-Ok-authenticate_set.ensures.verdict git gpgv keeper) in
    ended_stored o (set_for c.args.plan.now c.args.channels) c.finish_set.result (g.K.Keeper.stores c.args.keeper.now) (g.K.Keeper.stores c.authenticate_set.new.keeper) (g.K.Keeper.stores c.finish_set.new.keeper) verdict over
    c.in-Ok-authenticate_set.ensures.stores c.finish_set.ensures.stores

pub returns-in-Ok-authenticate_set-clause-asked : goal.returns-in-Ok-authenticate_set-clause-asked
returns-in-Ok-authenticate_set-clause-asked g c = λ git gpgv keeper.
    let o = outside (g.G.GitPort.table c.args.git.now) (g.V.SigPort.table c.args.gpgv.now) (g.K.Keeper.kept c.args.keeper.now) in
    let verdict = c.in-Ok-authenticate_set.verdict in (
      Ok verdict,
      subst (λ (s : SetTask). AreSoundOrNone o s → IsSetOutcome o s (Ok verdict)) c.in-Ok.ensures (c.in-Ok-authenticate_set.ensures.outcome git gpgv keeper),
      subst (λ (s : SetTask). AsksSet o s (Ok verdict) (g.V.SigPort.asked c.args.gpgv.now) (g.V.SigPort.asked c.authenticate_set.new.sig)) c.in-Ok.ensures (c.in-Ok-authenticate_set.ensures.asked git gpgv keeper),
      c.finish_set.ensures.status,
    )
