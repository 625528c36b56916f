use Rattle.std.proofs.Common.{◌≡◌, ◌⊎◌, inl, ℕ, List, Ok, sym, refl, subst}
use Rattle.std.specs.Prelude.{IsOk, IsTrue, Result}
use Rattle.channel_file.specs.declared.channel.Channel.{Channel}
use Rattle.auth_report.specs.declared.files.FileFail.TheVariants as file
use Rattle.auth_report.specs.FileTexts.{file_line}
use Rattle.channel_deps.specs.declared.set.SetTask.{SetTask}
use Rattle.channel_deps.specs.Outcome.{AreSoundOrNone, HasSoundCaches}
use Rattle.channel_deps.specs.Outside.{outside}
use Rattle.run_answers.specs.Answers.{Answer}
use Rattle.run_answers.specs.Ended.{stored, sunk, IsItOrStopped, Shows, TellsNone}
use Rattle.run_answers.specs.Faults.{counts}
use Rattle.channels_run.specs.declared.listing.ListFail.{ListFail}
use Rattle.channels_run.specs.Answers.{set_for, IsSetDue, KeepsOrStoresAll}
use Rattle.channels_run.specs.Listing.{list_at, trouble_line}
use Rattle.channels_run.proofs.ListLemmas.{set_answers, at_set, from_set, of_all, no_list_shown}
use Rattle.channels_run.proofs.PutLemmas.{set_puts, set_stores, set_asks, no_set_puts, no_set_stores, no_set_asks}
use Rattle.run_answers.proofs.ShownLemmas.{told_no_zero}
use Rattle.channels_run.proofs.SoundLemmas.{set_complete, list_complete, sound_behind}
use Rattle.channels_run.proofs.running.run_channels.Goals as goal

pub returns-in-Ok-clause-answer : goal.returns-in-Ok-clause-answer
returns-in-Ok-clause-answer g c = λ git gpgv keeper room out err sound.
    let o = outside (g.G.GitPort.table c.args.git.now) (g.V.SigPort.table c.args.gpgv.now) (g.K.Keeper.kept c.args.keeper.now) in
    let files = g.R.FileRoom.files c.args.room.now in
    let plan = c.args.plan.now in
    let channels = c.in-Ok.channels in
    let is = subst (λ (path : List ℕ). list_at files path ≡ Ok channels) c.as_str.ensures (c.in-Ok.ensures.list room) in
    let before = counts (g.G.GitPort.faults c.args.git.now) (g.V.SigPort.faults c.args.gpgv.now) (g.K.Keeper.faults c.args.keeper.now) in
    let now = counts (g.G.GitPort.faults c.run_set.new.git) (g.V.SigPort.faults c.run_set.new.gpgv) (g.K.Keeper.faults c.run_set.new.keeper) in
    let first = stored o.kept before.keeper in
    let later = stored (g.K.Keeper.kept c.run_set.new.keeper) now.keeper in
    let out_before = sunk (g.O.Sink.taken c.args.out.now) (g.O.Sink.faults c.args.out.now) in
    let out_now = sunk (g.O.Sink.taken c.run_set.new.out) (g.O.Sink.faults c.run_set.new.out) in
    let err_now = sunk (g.E.Sink.taken c.run_set.new.err) (g.E.Sink.faults c.run_set.new.err) in
    let told = subst IsTrue (sym c.listed_channels.ensures.err_told) err in
    let ended = c.run_set.ensures.answer git gpgv keeper out told (at_set o files plan channels is (AreSoundOrNone o) sound) in
    let from = subst (λ (taken : List ℕ). (answer : Answer) × IsItOrStopped (IsSetDue o plan channels) o.kept before now answer
    × Shows answer c.run_set.result first later out_before out_now (sunk taken (g.E.Sink.faults c.listed_channels.new.err)) err_now) c.in-Ok.ensures.err_taken ended in
    let whole = subst (λ (failed : ℕ). (answer : Answer) × IsItOrStopped (IsSetDue o plan channels) o.kept before now answer
    × Shows answer c.run_set.result first later out_before out_now (sunk (g.E.Sink.taken c.args.err.now) failed) err_now) c.in-Ok.ensures.err_faults from in
    (whole.0, set_answers o files plan channels is before now (g.R.FileRoom.faults c.args.room.now) (g.R.FileRoom.faults c.listed_channels.new.room) whole.0 whole.1, whole.2)

pub returns-in-Ok-clause-accepted : goal.returns-in-Ok-clause-accepted
returns-in-Ok-clause-accepted g c = λ git gpgv keeper room sound zero.
    let o = outside (g.G.GitPort.table c.args.git.now) (g.V.SigPort.table c.args.gpgv.now) (g.K.Keeper.kept c.args.keeper.now) in
    let files = g.R.FileRoom.files c.args.room.now in
    let plan = c.args.plan.now in
    let channels = c.in-Ok.channels in
    let is = subst (λ (path : List ℕ). list_at files path ≡ Ok channels) c.as_str.ensures (c.in-Ok.ensures.list room) in
    (channels, is, c.run_set.ensures.accepted git gpgv keeper (at_set o files plan channels is (AreSoundOrNone o) sound) zero)

pub returns-in-Ok-clause-complete : goal.returns-in-Ok-clause-complete
returns-in-Ok-clause-complete g c = λ git gpgv keeper room sound has.
    let o = outside (g.G.GitPort.table c.args.git.now) (g.V.SigPort.table c.args.gpgv.now) (g.K.Keeper.kept c.args.keeper.now) in
    let files = g.R.FileRoom.files c.args.room.now in
    let plan = c.args.plan.now in
    let channels = c.in-Ok.channels in
    let is = subst (λ (path : List ℕ). list_at files path ≡ Ok channels) c.as_str.ensures (c.in-Ok.ensures.list room) in
    set_complete o files plan has c.run_set.result channels is (c.run_set.ensures.complete git gpgv keeper (at_set o files plan channels is (HasSoundCaches o) sound))

pub returns-in-Ok-clause-keeps : goal.returns-in-Ok-clause-keeps
returns-in-Ok-clause-keeps g c = λ git gpgv keeper after room.
    let o = outside (g.G.GitPort.table c.args.git.now) (g.V.SigPort.table c.args.gpgv.now) (g.K.Keeper.kept c.args.keeper.now) in
    let files = g.R.FileRoom.files c.args.room.now in
    let plan = c.args.plan.now in
    let channels = c.in-Ok.channels in
    let is = subst (λ (path : List ℕ). list_at files path ≡ Ok channels) c.as_str.ensures (c.in-Ok.ensures.list room) in
    from_set o files plan channels is (λ (s : SetTask). AreSoundOrNone o s → KeepsOrStoresAll o (g.K.Keeper.kept c.run_set.new.keeper) s) (c.run_set.ensures.keeps git gpgv keeper after)

pub returns-in-Ok-clause-sound : goal.returns-in-Ok-clause-sound
returns-in-Ok-clause-sound g c = λ git gpgv keeper after room.
    let o = outside (g.G.GitPort.table c.args.git.now) (g.V.SigPort.table c.args.gpgv.now) (g.K.Keeper.kept c.args.keeper.now) in
    let files = g.R.FileRoom.files c.args.room.now in
    let plan = c.args.plan.now in
    let channels = c.in-Ok.channels in
    let later = g.K.Keeper.kept c.run_set.new.keeper in
    let is = subst (λ (path : List ℕ). list_at files path ≡ Ok channels) c.as_str.ensures (c.in-Ok.ensures.list room) in
    from_set o files plan channels is (λ (s : SetTask). HasSoundCaches o s → HasSoundCaches (outside o.answers o.verdicts later) s)
    (sound_behind o (set_for plan channels) later c.in-Ok.ensures.listed (c.run_set.ensures.keeps git gpgv keeper after))

pub returns-in-Err-clause-complete : goal.returns-in-Err-clause-complete
returns-in-Err-clause-complete g c = λ git gpgv keeper room sound has.
    let o = outside (g.G.GitPort.table c.args.git.now) (g.V.SigPort.table c.args.gpgv.now) (g.K.Keeper.kept c.args.keeper.now) in
    let files = g.R.FileRoom.files c.args.room.now in
    let status = c.in-Err.status in
    list_complete o files c.args.plan.now has status (subst (λ (path : List ℕ). IsOk (list_at files path) → (status ≡ 5) ⊎ (status ≡ 6)) c.as_str.ensures (c.in-Err.ensures.given room))

pub returns-in-Err-clause-sound : goal.returns-in-Err-clause-sound
returns-in-Err-clause-sound g c = λ git gpgv keeper after room.
    let o = outside (g.G.GitPort.table c.args.git.now) (g.V.SigPort.table c.args.gpgv.now) (g.K.Keeper.kept c.args.keeper.now) in
    of_all o (g.R.FileRoom.files c.args.room.now) c.args.plan.now (λ (s : SetTask). HasSoundCaches o s → HasSoundCaches o s) (λ s sound. sound)

pub returns-in-Err-clause-answer : goal.returns-in-Err-clause-answer
returns-in-Err-clause-answer g c = λ git gpgv keeper room out err sound.
    let o = outside (g.G.GitPort.table c.args.git.now) (g.V.SigPort.table c.args.gpgv.now) (g.K.Keeper.kept c.args.keeper.now) in
    let files = g.R.FileRoom.files c.args.room.now in
    let same = counts (g.G.GitPort.faults c.args.git.now) (g.V.SigPort.faults c.args.gpgv.now) (g.K.Keeper.faults c.args.keeper.now) in
    let err_before = sunk (g.E.Sink.taken c.args.err.now) (g.E.Sink.faults c.args.err.now) in
    let err_now = sunk (g.E.Sink.taken c.listed_channels.new.err) (g.E.Sink.faults c.listed_channels.new.err) in
    let told = subst (λ (path : List ℕ). TellsNone (list_at files path) (trouble_line path) (file_line path file.Failed) c.in-Err.status err_before err_now (g.R.FileRoom.faults c.args.room.now) (g.R.FileRoom.faults c.listed_channels.new.room)) c.as_str.ensures
    (c.in-Err.ensures.shown room err) in
    no_list_shown o files c.args.plan.now c.in-Err.status same same (g.R.FileRoom.faults c.args.room.now) (g.R.FileRoom.faults c.listed_channels.new.room)
    (stored o.kept same.keeper) (sunk (g.O.Sink.taken c.args.out.now) (g.O.Sink.faults c.args.out.now)) err_before err_now refl told

-- ---- what is put, how often the store is called, and the questions

pub returns-in-Ok-clause-puts : goal.returns-in-Ok-clause-puts
returns-in-Ok-clause-puts g c = λ git gpgv keeper after room.
    let o = outside (g.G.GitPort.table c.args.git.now) (g.V.SigPort.table c.args.gpgv.now) (g.K.Keeper.kept c.args.keeper.now) in
    let files = g.R.FileRoom.files c.args.room.now in
    let plan = c.args.plan.now in
    let channels = c.in-Ok.channels in
    let is = subst (λ (path : List ℕ). list_at files path ≡ Ok channels) c.as_str.ensures (c.in-Ok.ensures.list room) in
    set_puts o files plan channels is (g.K.Keeper.kept c.run_set.new.keeper) (c.run_set.ensures.puts git gpgv keeper after)

pub returns-in-Ok-clause-stores : goal.returns-in-Ok-clause-stores
returns-in-Ok-clause-stores g c = λ git gpgv keeper room.
    let o = outside (g.G.GitPort.table c.args.git.now) (g.V.SigPort.table c.args.gpgv.now) (g.K.Keeper.kept c.args.keeper.now) in
    let files = g.R.FileRoom.files c.args.room.now in
    let plan = c.args.plan.now in
    let channels = c.in-Ok.channels in
    let is = subst (λ (path : List ℕ). list_at files path ≡ Ok channels) c.as_str.ensures (c.in-Ok.ensures.list room) in
    set_stores o files plan channels is c.run_set.result (g.K.Keeper.stores c.args.keeper.now) (g.K.Keeper.stores c.run_set.new.keeper) (c.run_set.ensures.stores git gpgv keeper)

pub returns-in-Ok-clause-asked : goal.returns-in-Ok-clause-asked
returns-in-Ok-clause-asked g c = λ git gpgv keeper room.
    let o = outside (g.G.GitPort.table c.args.git.now) (g.V.SigPort.table c.args.gpgv.now) (g.K.Keeper.kept c.args.keeper.now) in
    let files = g.R.FileRoom.files c.args.room.now in
    let plan = c.args.plan.now in
    let channels = c.in-Ok.channels in
    let is = subst (λ (path : List ℕ). list_at files path ≡ Ok channels) c.as_str.ensures (c.in-Ok.ensures.list room) in
    set_asks o files plan channels is c.run_set.result (g.V.SigPort.asked c.args.gpgv.now) (g.V.SigPort.asked c.run_set.new.gpgv) (c.run_set.ensures.asked git gpgv keeper)

pub returns-in-Err-clause-puts : goal.returns-in-Err-clause-puts
returns-in-Err-clause-puts g c = λ git gpgv keeper after room.
    let o = outside (g.G.GitPort.table c.args.git.now) (g.V.SigPort.table c.args.gpgv.now) (g.K.Keeper.kept c.args.keeper.now) in
    let files = g.R.FileRoom.files c.args.room.now in
    no_set_puts o files c.args.plan.now o.kept refl

pub returns-in-Err-clause-stores : goal.returns-in-Err-clause-stores
returns-in-Err-clause-stores g c = λ git gpgv keeper room.
    let o = outside (g.G.GitPort.table c.args.git.now) (g.V.SigPort.table c.args.gpgv.now) (g.K.Keeper.kept c.args.keeper.now) in
    let files = g.R.FileRoom.files c.args.room.now in
    let count = g.K.Keeper.stores c.args.keeper.now in
    no_set_stores o files c.args.plan.now c.in-Err.status count count refl (told_no_zero c.in-Err.status c.in-Err.ensures.status)

pub returns-in-Err-clause-asked : goal.returns-in-Err-clause-asked
returns-in-Err-clause-asked g c = λ git gpgv keeper room.
    let o = outside (g.G.GitPort.table c.args.git.now) (g.V.SigPort.table c.args.gpgv.now) (g.K.Keeper.kept c.args.keeper.now) in
    let files = g.R.FileRoom.files c.args.room.now in
    let status = c.in-Err.status in
    let count = g.V.SigPort.asked c.args.gpgv.now in
    no_set_asks o files c.args.plan.now status count count refl (subst (λ (path : List ℕ). IsOk (list_at files path) → (status ≡ 5) ⊎ (status ≡ 6)) c.as_str.ensures (c.in-Err.ensures.given room))
