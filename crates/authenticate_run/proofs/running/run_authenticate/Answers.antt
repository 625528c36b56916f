use Rattle.std.proofs.Common.{inl, inr, ℕ, List, sym, refl, subst, arith}
use Rattle.std.specs.Prelude.{IsTrue, IsOk, Result}
use Rattle.child_ports.specs.KeySet.{Keys}
use Rattle.auth_report.specs.declared.files.FileFail.{FileFail}
use Rattle.run_answers.specs.Answers.{Answer}
use Rattle.authenticate_run.specs.Answers.{IsDue}
use Rattle.run_answers.specs.Faults.{counts}
use Rattle.channel_deps.specs.Outside.{outside}
use Rattle.authenticate_run.specs.Outside.{historical_of, HasSoundOrNone, HasSoundCache}
use Rattle.run_answers.specs.Ended.{stored, sunk, IsItOrStopped, Shows}
use Rattle.authenticate_run.specs.Run.{KeepsOrStores}
use Rattle.authenticate_run.proofs.PlanRunLemmas.{if_at, if_from, task_answers, task_complete, no_asks, no_keys_shown}
use Rattle.run_answers.proofs.ShownLemmas.{told_no_zero}
use Rattle.authenticate_run.proofs.StoreLemmas.{task_puts, task_stores, no_puts, no_stores}
use Rattle.authenticate_run.proofs.running.run_authenticate.Goals as goal

pub returns-in-Ok-clause-answer : goal.returns-in-Ok-clause-answer
returns-in-Ok-clause-answer g c = λ git gpgv keeper room out err sound.
    let o = outside (g.G.GitPort.table c.args.git.now) (g.V.SigPort.table c.args.gpgv.now) (g.K.Keeper.kept c.args.keeper.now) in
    let files = g.R.FileRoom.files c.args.room.now in
    let plan = c.args.plan.now in
    let keys = c.in-Ok.keys in
    let is = c.in-Ok.ensures.keys room in
    let before = counts (g.G.GitPort.faults c.args.git.now) (g.V.SigPort.faults c.args.gpgv.now) (g.K.Keeper.faults c.args.keeper.now) in
    let now = counts (g.G.GitPort.faults c.run_task.new.git) (g.V.SigPort.faults c.run_task.new.gpgv) (g.K.Keeper.faults c.run_task.new.keeper) in
    let first = stored o.kept before.keeper in
    let later = stored (g.K.Keeper.kept c.run_task.new.keeper) now.keeper in
    let out_before = sunk (g.O.Sink.taken c.args.out.now) (g.O.Sink.faults c.args.out.now) in
    let out_now = sunk (g.O.Sink.taken c.run_task.new.out) (g.O.Sink.faults c.run_task.new.out) in
    let err_now = sunk (g.E.Sink.taken c.run_task.new.err) (g.E.Sink.faults c.run_task.new.err) in
    let told = subst IsTrue (sym c.historical_keys.ensures.err_told) err in
    let ended = c.run_task.ensures.answer git gpgv keeper out told (if_at (historical_of files plan) keys (HasSoundOrNone o plan) is sound) in
    let from = subst (λ (taken : List ℕ). (answer : Answer) × IsItOrStopped (IsDue o plan keys) o.kept before now answer
    × Shows answer c.run_task.result first later out_before out_now (sunk taken (g.E.Sink.faults c.historical_keys.new.err)) err_now) c.in-Ok.ensures.err_taken ended in
    let whole = subst (λ (failed : ℕ). (answer : Answer) × IsItOrStopped (IsDue o plan keys) o.kept before now answer
    × Shows answer c.run_task.result first later out_before out_now (sunk (g.E.Sink.taken c.args.err.now) failed) err_now) c.in-Ok.ensures.err_faults from in
    (whole.0, task_answers o files plan keys is before now (g.R.FileRoom.faults c.args.room.now) (g.R.FileRoom.faults c.historical_keys.new.room) whole.0 whole.1, whole.2)

pub returns-in-Ok-clause-accepted : goal.returns-in-Ok-clause-accepted
returns-in-Ok-clause-accepted g c = λ git gpgv keeper room sound zero.
    let o = outside (g.G.GitPort.table c.args.git.now) (g.V.SigPort.table c.args.gpgv.now) (g.K.Keeper.kept c.args.keeper.now) in
    let files = g.R.FileRoom.files c.args.room.now in
    let plan = c.args.plan.now in
    let keys = c.in-Ok.keys in
    let is = c.in-Ok.ensures.keys room in
    (keys, is, c.run_task.ensures.accepted git gpgv keeper (if_at (historical_of files plan) keys (HasSoundOrNone o plan) is sound) zero)

pub returns-in-Ok-clause-complete : goal.returns-in-Ok-clause-complete
returns-in-Ok-clause-complete g c = λ git gpgv keeper room sound auth.
    let o = outside (g.G.GitPort.table c.args.git.now) (g.V.SigPort.table c.args.gpgv.now) (g.K.Keeper.kept c.args.keeper.now) in
    let files = g.R.FileRoom.files c.args.room.now in
    let plan = c.args.plan.now in
    let keys = c.in-Ok.keys in
    let is = c.in-Ok.ensures.keys room in
    task_complete o files plan keys is c.run_task.result auth (c.run_task.ensures.complete git gpgv keeper (if_at (historical_of files plan) keys (HasSoundCache o plan) is sound))

pub returns-in-Ok-clause-keeps : goal.returns-in-Ok-clause-keeps
returns-in-Ok-clause-keeps g c = λ git gpgv keeper after room.
    let o = outside (g.G.GitPort.table c.args.git.now) (g.V.SigPort.table c.args.gpgv.now) (g.K.Keeper.kept c.args.keeper.now) in
    let files = g.R.FileRoom.files c.args.room.now in
    let plan = c.args.plan.now in
    if_from (historical_of files plan) c.in-Ok.keys (λ (keys : Keys). HasSoundOrNone o plan keys → KeepsOrStores o plan keys (g.K.Keeper.kept c.run_task.new.keeper)) (c.in-Ok.ensures.keys room) (c.run_task.ensures.keeps git gpgv keeper after)

pub returns-in-Err-clause-answer : goal.returns-in-Err-clause-answer
returns-in-Err-clause-answer g c = λ git gpgv keeper room out err sound.
    let o = outside (g.G.GitPort.table c.args.git.now) (g.V.SigPort.table c.args.gpgv.now) (g.K.Keeper.kept c.args.keeper.now) in
    let same = counts (g.G.GitPort.faults c.args.git.now) (g.V.SigPort.faults c.args.gpgv.now) (g.K.Keeper.faults c.args.keeper.now) in
    no_keys_shown o (g.R.FileRoom.files c.args.room.now) c.args.plan.now c.in-Err.status same same (g.R.FileRoom.faults c.args.room.now) (g.R.FileRoom.faults c.historical_keys.new.room)
    (stored o.kept same.keeper) (sunk (g.O.Sink.taken c.args.out.now) (g.O.Sink.faults c.args.out.now)) (sunk (g.E.Sink.taken c.args.err.now) (g.E.Sink.faults c.args.err.now))
    (sunk (g.E.Sink.taken c.historical_keys.new.err) (g.E.Sink.faults c.historical_keys.new.err)) refl (c.in-Err.ensures.shown room err)

pub returns-in-Err-clause-complete : goal.returns-in-Err-clause-complete
returns-in-Err-clause-complete g c = λ git gpgv keeper room sound auth.
    let ok : IsOk (historical_of (g.R.FileRoom.files c.args.room.now) c.args.plan.now) = subst (λ (r : Result Keys FileFail). IsOk r) (sym auth.1) refl in
    elim (c.in-Err.ensures.given room ok) [
      | inl e ↦ inr (inr (inl e))
      | inr e ↦ inr (inr (inr e))
    ]

pub returns-in-Err-clause-asked : goal.returns-in-Err-clause-asked
returns-in-Err-clause-asked g c = λ git gpgv keeper room.
    let o = outside (g.G.GitPort.table c.args.git.now) (g.V.SigPort.table c.args.gpgv.now) (g.K.Keeper.kept c.args.keeper.now) in
    no_asks o (g.R.FileRoom.files c.args.room.now) c.args.plan.now c.in-Err.status _ _ refl (c.in-Err.ensures.given room) c.in-Err.ensures.status

-- ---- what is put, and how often the store is called

pub returns-in-Ok-clause-puts : goal.returns-in-Ok-clause-puts
returns-in-Ok-clause-puts g c = λ git gpgv keeper after room.
    task_puts (outside (g.G.GitPort.table c.args.git.now) (g.V.SigPort.table c.args.gpgv.now) (g.K.Keeper.kept c.args.keeper.now)) (g.R.FileRoom.files c.args.room.now) c.args.plan.now c.in-Ok.keys (c.in-Ok.ensures.keys room) (g.K.Keeper.kept c.run_task.new.keeper)
    (c.run_task.ensures.puts git gpgv keeper after)

pub returns-in-Ok-clause-stores : goal.returns-in-Ok-clause-stores
returns-in-Ok-clause-stores g c = λ git gpgv keeper room.
    task_stores (outside (g.G.GitPort.table c.args.git.now) (g.V.SigPort.table c.args.gpgv.now) (g.K.Keeper.kept c.args.keeper.now)) (g.R.FileRoom.files c.args.room.now) c.args.plan.now c.in-Ok.keys (c.in-Ok.ensures.keys room) c.run_task.result (g.K.Keeper.stores c.args.keeper.now) (g.K.Keeper.stores c.run_task.new.keeper)
    (c.run_task.ensures.stores git gpgv keeper)

pub returns-in-Err-clause-puts : goal.returns-in-Err-clause-puts
returns-in-Err-clause-puts g c = λ git gpgv keeper after room.
    no_puts (outside (g.G.GitPort.table c.args.git.now) (g.V.SigPort.table c.args.gpgv.now) (g.K.Keeper.kept c.args.keeper.now)) (g.R.FileRoom.files c.args.room.now) c.args.plan.now (g.K.Keeper.kept c.args.keeper.now) refl

pub returns-in-Err-clause-stores : goal.returns-in-Err-clause-stores
returns-in-Err-clause-stores g c = λ git gpgv keeper room.
    no_stores (outside (g.G.GitPort.table c.args.git.now) (g.V.SigPort.table c.args.gpgv.now) (g.K.Keeper.kept c.args.keeper.now)) (g.R.FileRoom.files c.args.room.now) c.args.plan.now c.in-Err.status (g.K.Keeper.stores c.args.keeper.now) (g.K.Keeper.stores c.args.keeper.now) refl (told_no_zero c.in-Err.status c.in-Err.ensures.status)

pub returns-in-Err-clause-named : goal.returns-in-Err-clause-named
returns-in-Err-clause-named g c = (omega arith, omega arith)
