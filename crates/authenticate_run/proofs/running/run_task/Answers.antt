use Rattle.std.proofs.Common.{inl, inr, ◌∙◌, ℕ, ◌+◌, length, Ok, Err, refl, sym, ap, subst, arith}
use Rattle.std.specs.Prelude.{IsTrue, IsOk, ◌↔◌}
use Rattle.std.specs.FinMap as map
use Rattle.child_ports.specs.Keeper.{Kept}
use Rattle.child_ports.specs.Named.{NamedAtMost}
use Rattle.auth_engine.specs.declared.task.Task.{Task}
use Rattle.auth_engine.specs.declared.task.Verdict.{Verdict}
use Rattle.auth_engine.specs.declared.engine_fail.EngineFail.{EngineFail}
use Rattle.auth_engine.specs.declared.engine_fail.EngineFail.TheVariants.{Memory}
use Rattle.auth_engine.specs.Answers.{OnFinding}
use Rattle.auth_engine.specs.Asked.{Asks}
use Rattle.auth_engine.specs.Outcome.{IsOutcome, IsVerdictOver, HasAuthenticTarget}
use Rattle.auth_engine.specs.SoundCache.{IsSoundCache, IsSoundOrNone}
use Rattle.auth_engine.proofs.AskedLemmas.{stop_asks}
use Rattle.auth_engine.proofs.OutcomeLemmas.{accepted_authentic}
use Rattle.run_answers.specs.Answers.{Answer}
use Rattle.authenticate_run.specs.Answers.{ending_of, with_store}
use Rattle.run_answers.specs.Faults.{counts, ends, IsEndFault}
use Rattle.channel_deps.specs.Outside.{outside}
use Rattle.authenticate_run.specs.Outside.{task_for}
use Rattle.run_answers.specs.Ended.{stored, sunk, IsFinished, Shows}
use Rattle.run_answers.proofs.ShownLemmas.{no_words}
use Rattle.authenticate_run.proofs.TaskRunLemmas.{refusal_is, refusal_shown, out_of_memory, finished, refused_complete, child_fault_of, store_fault_of, no_child_fault, accepted_complete, only_memory, memory_complete}
use Rattle.authenticate_run.proofs.StoreLemmas.{ended_stored}
use Rattle.authenticate_run.proofs.running.run_task.Goals as goal

-- ---- no task could be made

pub returns-in_default-clause-answer : goal.returns-in_default-clause-answer
returns-in_default-clause-answer g c = λ git gpgv keeper out err sound.
    let o = outside (g.G.GitPort.table c.args.git.now) (g.V.SigPort.table c.args.gpgv.now) (g.K.Keeper.kept c.args.keeper.now) in
    let same = counts (g.G.GitPort.faults c.args.git.now) (g.V.SigPort.faults c.args.gpgv.now) (g.K.Keeper.faults c.args.keeper.now) in
    out_of_memory o c.args.plan.now c.args.historical same same c.tell_refusal.result (stored o.kept same.keeper)
    (sunk (g.O.Sink.taken c.args.out.now) (g.O.Sink.faults c.args.out.now)) (sunk (g.E.Sink.taken c.args.err.now) (g.E.Sink.faults c.args.err.now))
    (sunk (g.E.Sink.taken c.tell_refusal.new.err) (g.E.Sink.faults c.tell_refusal.new.err)) refl (c.tell_refusal.ensures.shown err)

pub returns-in_default-clause-accepted : goal.returns-in_default-clause-accepted
returns-in_default-clause-accepted g c = λ git gpgv keeper sound zero. absurd ((no_words Memory c.tell_refusal.result c.tell_refusal.ensures.status).1 zero)

pub returns-in_default-clause-complete : goal.returns-in_default-clause-complete
returns-in_default-clause-complete g c = λ git gpgv keeper sound has. memory_complete c.tell_refusal.result c.tell_refusal.ensures.status

pub returns-in_default-clause-asked : goal.returns-in_default-clause-asked
returns-in_default-clause-asked g c = λ git gpgv keeper. (
  Err Memory,
  (λ sound. tt, tt),
  stop_asks (g.G.GitPort.table c.args.git.now) (g.V.SigPort.table c.args.gpgv.now) (task_for c.args.plan.now c.args.historical) _ _ _ Memory tt refl,
  c.tell_refusal.ensures.status,
)

pub returns-in_default-clause-stores : goal.returns-in_default-clause-stores
returns-in_default-clause-stores g c = λ git gpgv keeper. inl (refl, (no_words Memory c.tell_refusal.result c.tell_refusal.ensures.status).1)

pub returns-in_default-clause-puts : goal.returns-in_default-clause-puts
returns-in_default-clause-puts g c = λ git gpgv keeper after. inl refl

-- ---- the target wasn't accepted

pub returns-clause-answer : goal.returns-clause-answer
returns-clause-answer g c = λ git gpgv keeper out err sound.
    let rows = g.G.GitPort.table c.args.git.now in
    let sigs = g.V.SigPort.table c.args.gpgv.now in
    let kept = g.K.Keeper.kept c.args.keeper.now in
    let o = outside rows sigs kept in
    let fail = c.in-Err.fail in
    let before = counts (g.G.GitPort.faults c.args.git.now) (g.V.SigPort.faults c.args.gpgv.now) (g.K.Keeper.faults c.args.keeper.now) in
    let now = counts (g.G.GitPort.faults c.authenticate.new.git) (g.V.SigPort.faults c.authenticate.new.sig) (g.K.Keeper.faults c.authenticate.new.keeper) in
    let outcome = subst (λ (task : Task). IsSoundOrNone rows sigs task (map.get kept task.cache_key) → OnFinding {T = Verdict} (Err fail) (IsOutcome rows sigs task (map.get kept task.cache_key) (Err fail))) c.in-Ok.ensures.task
    (c.in-Err.ensures.outcome git gpgv keeper) sound in
    refusal_shown o c.args.plan.now c.args.historical before now c.tell_refusal-in-Err.result (stored (g.K.Keeper.kept c.authenticate.new.keeper) now.keeper)
    (sunk (g.O.Sink.taken c.args.out.now) (g.O.Sink.faults c.args.out.now)) (sunk (g.E.Sink.taken c.args.err.now) (g.E.Sink.faults c.args.err.now))
    (sunk (g.E.Sink.taken c.tell_refusal-in-Err.new.err) (g.E.Sink.faults c.tell_refusal-in-Err.new.err)) c.in-Err.ensures.kept fail
    (refusal_is o c.args.plan.now c.args.historical before now fail outcome c.in-Err.ensures.git_fault c.in-Err.ensures.sig_fault c.in-Err.ensures.keep_fault)
    (c.tell_refusal-in-Err.ensures.shown err)

pub returns-clause-accepted : goal.returns-clause-accepted
returns-clause-accepted g c = λ git gpgv keeper sound zero. absurd ((no_words c.in-Err.fail c.tell_refusal-in-Err.result c.tell_refusal-in-Err.ensures.status).1 zero)

pub returns-clause-complete : goal.returns-clause-complete
returns-clause-complete g c = λ git gpgv keeper sound has.
    let rows = g.G.GitPort.table c.args.git.now in
    let sigs = g.V.SigPort.table c.args.gpgv.now in
    let kept = g.K.Keeper.kept c.args.keeper.now in
    let fail = c.in-Err.fail in
    let authentic = subst (λ (task : Task). IsSoundCache rows sigs task (map.get kept task.cache_key) → OnFinding {T = Verdict} (Err fail) (IsOk {T = Verdict} {E = EngineFail} (Err fail) ↔ HasAuthenticTarget rows sigs task)) c.in-Ok.ensures.task
    (c.in-Err.ensures.authentic git gpgv keeper) sound in
    refused_complete fail c.tell_refusal-in-Err.result (HasAuthenticTarget rows sigs (task_for c.args.plan.now c.args.historical)) authentic has c.tell_refusal-in-Err.ensures.status

pub returns-clause-child_fault : goal.returns-clause-child_fault
returns-clause-child_fault g c = child_fault_of c.in-Err.fail c.tell_refusal-in-Err.result _ _ _ _ c.tell_refusal-in-Err.ensures.fault c.in-Err.ensures.git_fault c.in-Err.ensures.sig_fault

pub returns-clause-store_fault : goal.returns-clause-store_fault
returns-clause-store_fault g c = store_fault_of c.in-Err.fail c.tell_refusal-in-Err.result _ _ _ _ _ c.tell_refusal-in-Err.ensures.keeper_fault
    (no_words c.in-Err.fail c.tell_refusal-in-Err.result c.tell_refusal-in-Err.ensures.status).1 c.in-Err.ensures.keep_fault

pub returns-clause-asked : goal.returns-clause-asked
returns-clause-asked g c = λ git gpgv keeper.
    let rows = g.G.GitPort.table c.args.git.now in
    let sigs = g.V.SigPort.table c.args.gpgv.now in
    let kept = g.K.Keeper.kept c.args.keeper.now in
    let fail = c.in-Err.fail in (
      Err fail,
      (
        subst (λ (task : Task). IsSoundOrNone rows sigs task (map.get kept task.cache_key) → OnFinding {T = Verdict} (Err fail) (IsOutcome rows sigs task (map.get kept task.cache_key) (Err fail))) c.in-Ok.ensures.task
            (c.in-Err.ensures.outcome git gpgv keeper),
        tt,
      ),
      subst (λ (task : Task). Asks rows sigs task (map.get kept task.cache_key) (Err fail) (g.V.SigPort.asked c.args.gpgv.now) (g.V.SigPort.asked c.authenticate.new.sig)) c.in-Ok.ensures.task (c.in-Err.ensures.asked git gpgv keeper),
      c.tell_refusal-in-Err.ensures.status,
    )

pub returns-clause-keeps : goal.returns-clause-keeps
returns-clause-keeps g c = λ git gpgv keeper after sound. inl c.in-Err.ensures.kept

pub returns-clause-puts : goal.returns-clause-puts
returns-clause-puts g c = λ git gpgv keeper after. inl c.in-Err.ensures.kept

pub returns-clause-stores : goal.returns-clause-stores
returns-clause-stores g c = λ git gpgv keeper. inl (c.in-Err.ensures.stores, (no_words c.in-Err.fail c.tell_refusal-in-Err.result c.tell_refusal-in-Err.ensures.status).1)

-- ---- it was accepted

pub returns-in-Ok-authenticate-clause-answer : goal.returns-in-Ok-authenticate-clause-answer
returns-in-Ok-authenticate-clause-answer g c = λ git gpgv keeper out err sound.
    let rows = g.G.GitPort.table c.args.git.now in
    let sigs = g.V.SigPort.table c.args.gpgv.now in
    let kept = g.K.Keeper.kept c.args.keeper.now in
    let o = outside rows sigs kept in
    let plan = c.args.plan.now in
    let keys = c.args.historical in
    let verdict = c.in-Ok-authenticate.verdict in
    let before = counts (g.G.GitPort.faults c.args.git.now) (g.V.SigPort.faults c.args.gpgv.now) (g.K.Keeper.faults c.args.keeper.now) in
    let now = counts (g.G.GitPort.faults c.authenticate.new.git) (g.V.SigPort.faults c.authenticate.new.sig) (g.K.Keeper.faults c.finish_task.new.keeper) in
    let out_before = sunk (g.O.Sink.taken c.args.out.now) (g.O.Sink.faults c.args.out.now) in
    let out_now = sunk (g.O.Sink.taken c.finish_task.new.out) (g.O.Sink.faults c.finish_task.new.out) in
    let err_before = sunk (g.E.Sink.taken c.args.err.now) (g.E.Sink.faults c.args.err.now) in
    let err_now = sunk (g.E.Sink.taken c.finish_task.new.err) (g.E.Sink.faults c.finish_task.new.err) in
    let later = stored (g.K.Keeper.kept c.finish_task.new.keeper) (g.K.Keeper.faults c.finish_task.new.keeper) in
    let mid = g.K.Keeper.faults c.authenticate.new.keeper in
    let outcome = subst (λ (task : Task). IsSoundOrNone rows sigs task (map.get kept task.cache_key) → IsOutcome rows sigs task (map.get kept task.cache_key) (Ok verdict)) c.in-Ok.ensures.task
    (c.in-Ok-authenticate.ensures.outcome git gpgv keeper) sound in
    let told = subst IsTrue (sym c.in-Ok-authenticate.ensures.keeper_told) keeper in
    let ended = subst (λ (k : Kept). (answer : Answer) × IsFinished k (ending_of plan verdict) mid now.keeper answer × Shows answer c.finish_task.result (stored k mid) later out_before out_now err_before err_now) c.in-Ok-authenticate.ensures.kept
    (c.finish_task.ensures.answer told out err) in
    let first = subst (λ (n : ℕ). (answer : Answer) × IsFinished kept (ending_of plan verdict) n now.keeper answer × Shows answer c.finish_task.result (stored kept n) later out_before out_now err_before err_now) c.in-Ok-authenticate.ensures.keep_fault ended in
    (first.0, finished o plan keys before now verdict first.0 outcome first.1, first.2)

pub returns-in-Ok-authenticate-clause-accepted : goal.returns-in-Ok-authenticate-clause-accepted
returns-in-Ok-authenticate-clause-accepted g c = λ git gpgv keeper sound zero.
    let rows = g.G.GitPort.table c.args.git.now in
    let sigs = g.V.SigPort.table c.args.gpgv.now in
    let kept = g.K.Keeper.kept c.args.keeper.now in
    let verdict = c.in-Ok-authenticate.verdict in
    let outcome = subst (λ (task : Task). IsSoundOrNone rows sigs task (map.get kept task.cache_key) → IsOutcome rows sigs task (map.get kept task.cache_key) (Ok verdict)) c.in-Ok.ensures.task
    (c.in-Ok-authenticate.ensures.outcome git gpgv keeper) sound in
    accepted_authentic rows sigs (task_for c.args.plan.now c.args.historical) (map.get kept c.args.plan.now.cache_key) verdict outcome

pub returns-in-Ok-authenticate-clause-complete : goal.returns-in-Ok-authenticate-clause-complete
returns-in-Ok-authenticate-clause-complete g c = λ git gpgv keeper sound has. accepted_complete c.finish_task.result c.finish_task.ensures.status

pub returns-in-Ok-authenticate-clause-child_fault : goal.returns-in-Ok-authenticate-clause-child_fault
returns-in-Ok-authenticate-clause-child_fault g c = no_child_fault c.finish_task.result _ _ _ _ c.finish_task.ensures.status c.in-Ok-authenticate.ensures.git_fault c.in-Ok-authenticate.ensures.sig_fault

pub returns-in-Ok-authenticate-clause-store_fault : goal.returns-in-Ok-authenticate-clause-store_fault
returns-in-Ok-authenticate-clause-store_fault g c =
    subst (λ (n : ℕ). IsEndFault ⊥ c.finish_task.result (ends n (g.O.Sink.faults c.args.out.now) (g.E.Sink.faults c.args.err.now))
    (ends (g.K.Keeper.faults c.finish_task.new.keeper) (g.O.Sink.faults c.finish_task.new.out) (g.E.Sink.faults c.finish_task.new.err))) c.in-Ok-authenticate.ensures.keep_fault c.finish_task.ensures.fault

pub returns-in-Ok-authenticate-clause-unchanged : goal.returns-in-Ok-authenticate-clause-unchanged
returns-in-Ok-authenticate-clause-unchanged g c = λ keeper after no_zero no_five.
    let told = subst IsTrue (sym c.in-Ok-authenticate.ensures.keeper_told) keeper in
    c.finish_task.ensures.unchanged told after (only_memory c.finish_task.result c.finish_task.ensures.status no_zero no_five) ∙ c.in-Ok-authenticate.ensures.kept

pub returns-in-Ok-authenticate-clause-keeps : goal.returns-in-Ok-authenticate-clause-keeps
returns-in-Ok-authenticate-clause-keeps g c = λ git gpgv keeper after sound.
    let rows = g.G.GitPort.table c.args.git.now in
    let sigs = g.V.SigPort.table c.args.gpgv.now in
    let kept = g.K.Keeper.kept c.args.keeper.now in
    let verdict = c.in-Ok-authenticate.verdict in
    let outcome = subst (λ (task : Task). IsSoundOrNone rows sigs task (map.get kept task.cache_key) → IsOutcome rows sigs task (map.get kept task.cache_key) (Ok verdict)) c.in-Ok.ensures.task
    (c.in-Ok-authenticate.ensures.outcome git gpgv keeper) sound in
    let told = subst IsTrue (sym c.in-Ok-authenticate.ensures.keeper_told) keeper in
    elim (c.finish_task.ensures.keeps told after) [
      | inl same ↦ inl (same ∙ c.in-Ok-authenticate.ensures.kept)
      | inr put ↦ inr (verdict, outcome, put ∙ ap (λ (k : Kept). with_store k verdict.store) c.in-Ok-authenticate.ensures.kept)
    ]

pub returns-in-Ok-authenticate-clause-asked : goal.returns-in-Ok-authenticate-clause-asked
returns-in-Ok-authenticate-clause-asked g c = λ git gpgv keeper.
    let rows = g.G.GitPort.table c.args.git.now in
    let sigs = g.V.SigPort.table c.args.gpgv.now in
    let kept = g.K.Keeper.kept c.args.keeper.now in
    let verdict = c.in-Ok-authenticate.verdict in (
      Ok verdict,
      (
        subst (λ (task : Task). IsSoundOrNone rows sigs task (map.get kept task.cache_key) → IsOutcome rows sigs task (map.get kept task.cache_key) (Ok verdict)) c.in-Ok.ensures.task
            (c.in-Ok-authenticate.ensures.outcome git gpgv keeper),
        subst (λ (task : Task). IsVerdictOver rows sigs task (map.get kept task.cache_key) verdict) c.in-Ok.ensures.task (c.in-Ok-authenticate.ensures.verdict git gpgv keeper),
      ),
      subst (λ (task : Task). Asks rows sigs task (map.get kept task.cache_key) (Ok verdict) (g.V.SigPort.asked c.args.gpgv.now) (g.V.SigPort.asked c.authenticate.new.sig)) c.in-Ok.ensures.task (c.in-Ok-authenticate.ensures.asked git gpgv keeper),
      c.finish_task.ensures.status,
    )

pub returns-in-Ok-authenticate-clause-puts : goal.returns-in-Ok-authenticate-clause-puts
returns-in-Ok-authenticate-clause-puts g c = λ git gpgv keeper after.
    let rows = g.G.GitPort.table c.args.git.now in
    let sigs = g.V.SigPort.table c.args.gpgv.now in
    let kept = g.K.Keeper.kept c.args.keeper.now in
    let verdict = c.in-Ok-authenticate.verdict in
    let over = subst (λ (task : Task). IsVerdictOver rows sigs task (map.get kept task.cache_key) verdict) c.in-Ok.ensures.task
    (c.in-Ok-authenticate.ensures.verdict git gpgv keeper) in
    let told = subst IsTrue (sym c.in-Ok-authenticate.ensures.keeper_told) keeper in
    elim (c.finish_task.ensures.keeps told after) [
      | inl same ↦ inl (same ∙ c.in-Ok-authenticate.ensures.kept)
      | inr put ↦ inr (verdict, over, put ∙ ap (λ (k : Kept). with_store k verdict.store) c.in-Ok-authenticate.ensures.kept)
    ]

pub returns-in-Ok-authenticate-clause-stores : goal.returns-in-Ok-authenticate-clause-stores
returns-in-Ok-authenticate-clause-stores g c = λ git gpgv keeper.
    let rows = g.G.GitPort.table c.args.git.now in
    let sigs = g.V.SigPort.table c.args.gpgv.now in
    let kept = g.K.Keeper.kept c.args.keeper.now in
    let verdict = c.in-Ok-authenticate.verdict in
    let over = subst (λ (task : Task). IsVerdictOver rows sigs task (map.get kept task.cache_key) verdict) c.in-Ok.ensures.task
    (c.in-Ok-authenticate.ensures.verdict git gpgv keeper) in
    ended_stored (outside rows sigs kept) c.args.plan.now c.args.historical c.finish_task.result (g.K.Keeper.stores c.args.keeper.now) (g.K.Keeper.stores c.authenticate.new.keeper) (g.K.Keeper.stores c.finish_task.new.keeper) verdict over c.in-Ok-authenticate.ensures.stores c.finish_task.ensures.stores

-- ---- the names that were asked

pub returns-in_default-clause-named : goal.returns-in_default-clause-named
returns-in_default-clause-named g c = (omega arith, omega arith)

pub returns-clause-named : goal.returns-clause-named
returns-clause-named g c = subst (λ (task : Task). NamedAtMost (length task.target + length task.keyring) (g.G.GitPort.named c.args.git.now) (g.G.GitPort.named c.authenticate.new.git)) c.in-Ok.ensures.task c.in-Err.ensures.named

pub returns-in-Ok-authenticate-clause-named : goal.returns-in-Ok-authenticate-clause-named
returns-in-Ok-authenticate-clause-named g c = subst (λ (task : Task). NamedAtMost (length task.target + length task.keyring) (g.G.GitPort.named c.args.git.now) (g.G.GitPort.named c.authenticate.new.git)) c.in-Ok.ensures.task c.in-Ok-authenticate.ensures.named
