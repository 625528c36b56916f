use Rattle.std.proofs.Common.{◌≡◌, ◌⊎◌, inl, ◌∙◌, ap, arith, [], Some, None, Ok, refl, sym, subst, codes}
use Rattle.std.specs.Prelude.{Option}
use Rattle.child_ports.specs.Causes.{Rose}
use Rattle.child_ports.specs.KeySet.{Keys}
use Rattle.auth_words.specs.declared.plan.Plan.{Plan}
use Rattle.auth_words.specs.declared.plan.ChannelsPlan.{ChannelsPlan}
use Rattle.auth_words.specs.declared.plan.Command.{Command}
use Rattle.auth_words.specs.declared.plan.Command.TheVariants.{Help, Authenticate, Channels}
use Rattle.auth_words.specs.Words.{command_of}
use Rattle.auth_report.specs.Parts.{line_of}
use Rattle.guix_auth_cli.specs.Help.{help_text}
use Rattle.channel_deps.specs.Outside.{outside}
use Rattle.authenticate_run.specs.Outside.{historical_of, OfKeys, HasSoundCache, HasSoundOrNone}
use Rattle.run_answers.specs.Ended.{sunk}
use Rattle.authenticate_run.specs.Run.{KeepsOrStores, IsAuthenticFor}
use Rattle.channel_deps.specs.declared.set.SetTask.{SetTask}
use Rattle.channel_deps.specs.Outcome.{AreSoundOrNone, HasSoundCaches}
use Rattle.channels_run.specs.Answers.{IsAcceptedSet, KeepsOrStoresAll, OfSet, SetAsksFor}
use Rattle.guix_auth_cli.specs.Answers.{IsSoundOrNoneFor, PutsBy, StoresBy}
use Rattle.run_answers.proofs.ShownLemmas.{untouched, no_output, own_output, lost_also}
use Rattle.guix_auth_cli.proofs.RunLemmas.{read_is, one_plan, one_list, fault_of_words, ran, at_once, wants_memory, puts_none, stores_none, if_map, sound_behind}
use Rattle.guix_auth_cli.proofs.running.run.Goals as goal

pub returns-in-Ok-Some-Authenticate-clause-answer : goal.returns-in-Ok-Some-Authenticate-clause-answer
returns-in-Ok-Some-Authenticate-clause-answer g c = λ git gpgv keeper room out err sound.
    let o = outside (g.G.GitPort.table c.args.git.now) (g.V.SigPort.table c.args.gpgv.now) (g.K.Keeper.kept c.args.keeper.now) in
    let files = g.R.FileRoom.files c.args.room.now in
    let plan = c.in-Ok-Some-Authenticate.plan in
    let stated = read_is c.read_words.result (Some (Authenticate plan)) (command_of c.args.words.now) c.read_words.ensures.exact
    (c.in-Ok-Some-Authenticate.is ∙ ap (λ (x : Option Command). Ok x) (c.in-Ok-Some-Authenticate.field-0-is ∙ ap (λ (x : Command). Some x) c.in-Ok-Some-Authenticate.field-0-0-is)) in
    let own = subst (λ (command : Option Command). IsSoundOrNoneFor o files command) stated sound in
    ran o files c.args.words.now _ _ _ _ _ _ _ _ _ _ (Some (Authenticate plan)) stated (c.run_authenticate.ensures.answer git gpgv keeper room out err own)

pub returns-in-Ok-Some-Authenticate-clause-accepted : goal.returns-in-Ok-Some-Authenticate-clause-accepted
returns-in-Ok-Some-Authenticate-clause-accepted g c = λ other is git gpgv keeper room sound zero.
    let o = outside (g.G.GitPort.table c.args.git.now) (g.V.SigPort.table c.args.gpgv.now) (g.K.Keeper.kept c.args.keeper.now) in
    let files = g.R.FileRoom.files c.args.room.now in
    let plan = c.in-Ok-Some-Authenticate.plan in
    let stated = read_is c.read_words.result (Some (Authenticate plan)) (command_of c.args.words.now) c.read_words.ensures.exact
    (c.in-Ok-Some-Authenticate.is ∙ ap (λ (x : Option Command). Ok x) (c.in-Ok-Some-Authenticate.field-0-is ∙ ap (λ (x : Command). Some x) c.in-Ok-Some-Authenticate.field-0-0-is)) in
    subst (λ (p : Plan). OfKeys files p (HasSoundOrNone o p) → IsAuthenticFor o files p) (one_plan c.args.words.now plan other stated is)
    (λ own. c.run_authenticate.ensures.accepted git gpgv keeper room own zero) sound

pub returns-in-Ok-Some-Authenticate-clause-complete : goal.returns-in-Ok-Some-Authenticate-clause-complete
returns-in-Ok-Some-Authenticate-clause-complete g c = λ other is git gpgv keeper room sound auth.
    let o = outside (g.G.GitPort.table c.args.git.now) (g.V.SigPort.table c.args.gpgv.now) (g.K.Keeper.kept c.args.keeper.now) in
    let files = g.R.FileRoom.files c.args.room.now in
    let plan = c.in-Ok-Some-Authenticate.plan in
    let status = c.run_authenticate.result in
    let stated = read_is c.read_words.result (Some (Authenticate plan)) (command_of c.args.words.now) c.read_words.ensures.exact
    (c.in-Ok-Some-Authenticate.is ∙ ap (λ (x : Option Command). Ok x) (c.in-Ok-Some-Authenticate.field-0-is ∙ ap (λ (x : Command). Some x) c.in-Ok-Some-Authenticate.field-0-0-is)) in
    subst (λ (p : Plan). OfKeys files p (HasSoundCache o p) → IsAuthenticFor o files p → (status ≡ 0) ⊎ (status ≡ 4) ⊎ (status ≡ 5) ⊎ (status ≡ 6)) (one_plan c.args.words.now plan other stated is)
    (λ own has. c.run_authenticate.ensures.complete git gpgv keeper room own has) sound auth

pub returns-in-Ok-Some-Authenticate-clause-keeps : goal.returns-in-Ok-Some-Authenticate-clause-keeps
returns-in-Ok-Some-Authenticate-clause-keeps g c = λ other is git gpgv keeper after room.
    let o = outside (g.G.GitPort.table c.args.git.now) (g.V.SigPort.table c.args.gpgv.now) (g.K.Keeper.kept c.args.keeper.now) in
    let files = g.R.FileRoom.files c.args.room.now in
    let later = g.K.Keeper.kept c.run_authenticate.new.keeper in
    let plan = c.in-Ok-Some-Authenticate.plan in
    let stated = read_is c.read_words.result (Some (Authenticate plan)) (command_of c.args.words.now) c.read_words.ensures.exact
    (c.in-Ok-Some-Authenticate.is ∙ ap (λ (x : Option Command). Ok x) (c.in-Ok-Some-Authenticate.field-0-is ∙ ap (λ (x : Command). Some x) c.in-Ok-Some-Authenticate.field-0-0-is)) in
    subst (λ (p : Plan). OfKeys files p (λ (keys : Keys). HasSoundOrNone o p keys → KeepsOrStores o p keys later)) (one_plan c.args.words.now plan other stated is)
    (c.run_authenticate.ensures.keeps git gpgv keeper after room)

pub returns-in-Ok-Some-Authenticate-clause-sound : goal.returns-in-Ok-Some-Authenticate-clause-sound
returns-in-Ok-Some-Authenticate-clause-sound g c = λ other is git gpgv keeper after room.
    let o = outside (g.G.GitPort.table c.args.git.now) (g.V.SigPort.table c.args.gpgv.now) (g.K.Keeper.kept c.args.keeper.now) in
    let files = g.R.FileRoom.files c.args.room.now in
    let later = g.K.Keeper.kept c.run_authenticate.new.keeper in
    let plan = c.in-Ok-Some-Authenticate.plan in
    let stated = read_is c.read_words.result (Some (Authenticate plan)) (command_of c.args.words.now) c.read_words.ensures.exact
    (c.in-Ok-Some-Authenticate.is ∙ ap (λ (x : Option Command). Ok x) (c.in-Ok-Some-Authenticate.field-0-is ∙ ap (λ (x : Command). Some x) c.in-Ok-Some-Authenticate.field-0-0-is)) in
    subst (λ (p : Plan). OfKeys files p (λ (keys : Keys). HasSoundCache o p keys → HasSoundCache (outside o.answers o.verdicts later) p keys)) (one_plan c.args.words.now plan other stated is)
    (if_map (historical_of files plan) (λ (keys : Keys). HasSoundOrNone o plan keys → KeepsOrStores o plan keys later) (λ (keys : Keys). HasSoundCache o plan keys → HasSoundCache (outside o.answers o.verdicts later) plan keys)
    (λ keys keeps. sound_behind o plan later keys keeps) (c.run_authenticate.ensures.keeps git gpgv keeper after room))

pub returns-in-Ok-Some-Authenticate-clause-other_fault : goal.returns-in-Ok-Some-Authenticate-clause-other_fault
returns-in-Ok-Some-Authenticate-clause-other_fault g c =
    let plan = c.in-Ok-Some-Authenticate.plan in
    let stated = read_is c.read_words.result (Some (Authenticate plan)) (command_of c.args.words.now) c.read_words.ensures.exact
    (c.in-Ok-Some-Authenticate.is ∙ ap (λ (x : Option Command). Ok x) (c.in-Ok-Some-Authenticate.field-0-is ∙ ap (λ (x : Command). Some x) c.in-Ok-Some-Authenticate.field-0-0-is)) in
    fault_of_words c.args.words.now (Some (Authenticate plan)) _ _ _ _ _ stated c.run_authenticate.ensures.other_fault

pub returns-in-Ok-Some-Channels-clause-other_fault : goal.returns-in-Ok-Some-Channels-clause-other_fault
returns-in-Ok-Some-Channels-clause-other_fault g c =
    let plan = c.in-Ok-Some-Channels.plan in
    let stated = read_is c.read_words.result (Some (Channels plan)) (command_of c.args.words.now) c.read_words.ensures.exact
    (c.in-Ok-Some-Channels.is ∙ ap (λ (x : Option Command). Ok x) (c.in-Ok-Some-Channels.field-0-is ∙ ap (λ (x : Command). Some x) c.in-Ok-Some-Channels.field-0-0-is)) in
    fault_of_words c.args.words.now (Some (Channels plan)) _ _ _ _ _ stated c.run_channels.ensures.other_fault

pub returns-in-Ok-Some-Channels-clause-answer : goal.returns-in-Ok-Some-Channels-clause-answer
returns-in-Ok-Some-Channels-clause-answer g c = λ git gpgv keeper room out err sound.
    let o = outside (g.G.GitPort.table c.args.git.now) (g.V.SigPort.table c.args.gpgv.now) (g.K.Keeper.kept c.args.keeper.now) in
    let files = g.R.FileRoom.files c.args.room.now in
    let plan = c.in-Ok-Some-Channels.plan in
    let stated = read_is c.read_words.result (Some (Channels plan)) (command_of c.args.words.now) c.read_words.ensures.exact
    (c.in-Ok-Some-Channels.is ∙ ap (λ (x : Option Command). Ok x) (c.in-Ok-Some-Channels.field-0-is ∙ ap (λ (x : Command). Some x) c.in-Ok-Some-Channels.field-0-0-is)) in
    let own = subst (λ (command : Option Command). IsSoundOrNoneFor o files command) stated sound in
    ran o files c.args.words.now _ _ _ _ _ _ _ _ _ _ (Some (Channels plan)) stated (c.run_channels.ensures.answer git gpgv keeper room out err own)

pub returns-in-Ok-Some-Channels-clause-set_accepted : goal.returns-in-Ok-Some-Channels-clause-set_accepted
returns-in-Ok-Some-Channels-clause-set_accepted g c = λ other is git gpgv keeper room sound zero.
    let o = outside (g.G.GitPort.table c.args.git.now) (g.V.SigPort.table c.args.gpgv.now) (g.K.Keeper.kept c.args.keeper.now) in
    let files = g.R.FileRoom.files c.args.room.now in
    let plan = c.in-Ok-Some-Channels.plan in
    let stated = read_is c.read_words.result (Some (Channels plan)) (command_of c.args.words.now) c.read_words.ensures.exact
    (c.in-Ok-Some-Channels.is ∙ ap (λ (x : Option Command). Ok x) (c.in-Ok-Some-Channels.field-0-is ∙ ap (λ (x : Command). Some x) c.in-Ok-Some-Channels.field-0-0-is)) in
    subst (λ (p : ChannelsPlan). OfSet files p (AreSoundOrNone o) → IsAcceptedSet o files p) (one_list c.args.words.now plan other stated is)
    (λ own. c.run_channels.ensures.accepted git gpgv keeper room own zero) sound

pub returns-in-Ok-Some-Channels-clause-set_keeps : goal.returns-in-Ok-Some-Channels-clause-set_keeps
returns-in-Ok-Some-Channels-clause-set_keeps g c = λ other is git gpgv keeper after room.
    let o = outside (g.G.GitPort.table c.args.git.now) (g.V.SigPort.table c.args.gpgv.now) (g.K.Keeper.kept c.args.keeper.now) in
    let files = g.R.FileRoom.files c.args.room.now in
    let later = g.K.Keeper.kept c.run_channels.new.keeper in
    let plan = c.in-Ok-Some-Channels.plan in
    let stated = read_is c.read_words.result (Some (Channels plan)) (command_of c.args.words.now) c.read_words.ensures.exact
    (c.in-Ok-Some-Channels.is ∙ ap (λ (x : Option Command). Ok x) (c.in-Ok-Some-Channels.field-0-is ∙ ap (λ (x : Command). Some x) c.in-Ok-Some-Channels.field-0-0-is)) in
    subst (λ (p : ChannelsPlan). OfSet files p (λ (s : SetTask). AreSoundOrNone o s → KeepsOrStoresAll o later s)) (one_list c.args.words.now plan other stated is)
    (c.run_channels.ensures.keeps git gpgv keeper after room)

pub returns-in-Ok-Some-Channels-clause-set_complete : goal.returns-in-Ok-Some-Channels-clause-set_complete
returns-in-Ok-Some-Channels-clause-set_complete g c = λ other is git gpgv keeper room sound has.
    let o = outside (g.G.GitPort.table c.args.git.now) (g.V.SigPort.table c.args.gpgv.now) (g.K.Keeper.kept c.args.keeper.now) in
    let files = g.R.FileRoom.files c.args.room.now in
    let plan = c.in-Ok-Some-Channels.plan in
    let status = c.run_channels.result in
    let stated = read_is c.read_words.result (Some (Channels plan)) (command_of c.args.words.now) c.read_words.ensures.exact
    (c.in-Ok-Some-Channels.is ∙ ap (λ (x : Option Command). Ok x) (c.in-Ok-Some-Channels.field-0-is ∙ ap (λ (x : Command). Some x) c.in-Ok-Some-Channels.field-0-0-is)) in
    subst (λ (p : ChannelsPlan). OfSet files p (HasSoundCaches o) → IsAcceptedSet o files p → (status ≡ 0) ⊎ (status ≡ 4) ⊎ (status ≡ 5) ⊎ (status ≡ 6)) (one_list c.args.words.now plan other stated is)
    (λ own accepted. c.run_channels.ensures.complete git gpgv keeper room own accepted) sound has

pub returns-in-Ok-Some-Channels-clause-set_sound : goal.returns-in-Ok-Some-Channels-clause-set_sound
returns-in-Ok-Some-Channels-clause-set_sound g c = λ other is git gpgv keeper after room.
    let o = outside (g.G.GitPort.table c.args.git.now) (g.V.SigPort.table c.args.gpgv.now) (g.K.Keeper.kept c.args.keeper.now) in
    let files = g.R.FileRoom.files c.args.room.now in
    let later = g.K.Keeper.kept c.run_channels.new.keeper in
    let plan = c.in-Ok-Some-Channels.plan in
    let stated = read_is c.read_words.result (Some (Channels plan)) (command_of c.args.words.now) c.read_words.ensures.exact
    (c.in-Ok-Some-Channels.is ∙ ap (λ (x : Option Command). Ok x) (c.in-Ok-Some-Channels.field-0-is ∙ ap (λ (x : Command). Some x) c.in-Ok-Some-Channels.field-0-0-is)) in
    subst (λ (p : ChannelsPlan). OfSet files p (λ (s : SetTask). HasSoundCaches o s → HasSoundCaches (outside o.answers o.verdicts later) s)) (one_list c.args.words.now plan other stated is)
    (c.run_channels.ensures.sound git gpgv keeper after room)

pub returns-in-Ok-Some-Help-clause-answer : goal.returns-in-Ok-Some-Help-clause-answer
returns-in-Ok-Some-Help-clause-answer g c = λ git gpgv keeper room out err sound.
    let o = outside (g.G.GitPort.table c.args.git.now) (g.V.SigPort.table c.args.gpgv.now) (g.K.Keeper.kept c.args.keeper.now) in
    let out_before = sunk (g.O.Sink.taken c.args.out.now) (g.O.Sink.faults c.args.out.now) in
    let out_now = sunk (g.O.Sink.taken c.print.new.out) (g.O.Sink.faults c.print.new.out) in
    let err_same = sunk (g.E.Sink.taken c.args.err.now) (g.E.Sink.faults c.args.err.now) in
    let stated = read_is c.read_words.result (Some Help) (command_of c.args.words.now) c.read_words.ensures.exact
    (c.in-Ok-Some-Help.is ∙ ap (λ (x : Option Command). Ok x) (c.in-Ok-Some-Help.field-0-is ∙ ap (λ (x : Command). Some x) c.in-Ok-Some-Help.field-0-0-is)) in
    at_once o (g.R.FileRoom.files c.args.room.now) c.args.words.now _ _ _ _ _ _ _ _ _ _ (Some Help) (record { status = 0; out = help_text; err = []; kept = o.kept }) stated refl
    (lost_also (Rose out_before.failed out_now.failed) (Rose out_before.failed out_now.failed ⊎ Rose err_same.failed err_same.failed) 0 c.print.result (λ rose. inl rose) c.print.ensures.answer)
    (own_output help_text out_before out_now err_same err_same refl (c.print.ensures.put out)) (untouched _ _) refl

pub returns-in-Ok-None-clause-answer : goal.returns-in-Ok-None-clause-answer
returns-in-Ok-None-clause-answer g c = λ git gpgv keeper room out err sound.
    let o = outside (g.G.GitPort.table c.args.git.now) (g.V.SigPort.table c.args.gpgv.now) (g.K.Keeper.kept c.args.keeper.now) in
    let out_same = sunk (g.O.Sink.taken c.args.out.now) (g.O.Sink.faults c.args.out.now) in
    let err_before = sunk (g.E.Sink.taken c.args.err.now) (g.E.Sink.faults c.args.err.now) in
    let err_now = sunk (g.E.Sink.taken c.tell.new.err) (g.E.Sink.faults c.tell.new.err) in
    let stated = read_is c.read_words.result None (command_of c.args.words.now) c.read_words.ensures.exact
    (c.in-Ok-None.is ∙ ap (λ (x : Option Command). Ok x) c.in-Ok-None.field-0-is) in
    at_once o (g.R.FileRoom.files c.args.room.now) c.args.words.now _ _ _ _ _ _ _ _ _ _ None (record { status = 2; out = []; err = line_of (codes "bad words; see guix-auth --help"); kept = o.kept }) stated refl
    (inl c.tell.ensures.status) (no_output out_same err_before err_now) (c.tell.ensures.put err) refl

pub returns-in-Err-clause-answer : goal.returns-in-Err-clause-answer
returns-in-Err-clause-answer g c = λ git gpgv keeper room out err sound.
    let o = outside (g.G.GitPort.table c.args.git.now) (g.V.SigPort.table c.args.gpgv.now) (g.K.Keeper.kept c.args.keeper.now) in
    wants_memory o (g.R.FileRoom.files c.args.room.now) c.args.words.now _ _ _ _ _ _ _ _ _ c.tell-in-Err.ensures.status refl (c.tell-in-Err.ensures.put err)

-- ---- what is put, how often the store is called, and the questions

pub returns-in-Ok-Some-Authenticate-clause-puts : goal.returns-in-Ok-Some-Authenticate-clause-puts
returns-in-Ok-Some-Authenticate-clause-puts g c = λ git gpgv keeper after room.
    let o = outside (g.G.GitPort.table c.args.git.now) (g.V.SigPort.table c.args.gpgv.now) (g.K.Keeper.kept c.args.keeper.now) in
    let files = g.R.FileRoom.files c.args.room.now in
    let plan = c.in-Ok-Some-Authenticate.plan in
    let stated = read_is c.read_words.result (Some (Authenticate plan)) (command_of c.args.words.now) c.read_words.ensures.exact
    (c.in-Ok-Some-Authenticate.is ∙ ap (λ (x : Option Command). Ok x) (c.in-Ok-Some-Authenticate.field-0-is ∙ ap (λ (x : Command). Some x) c.in-Ok-Some-Authenticate.field-0-0-is)) in
    subst (λ (command : Option Command). PutsBy o files command (g.K.Keeper.kept c.run_authenticate.new.keeper)) (sym stated) (c.run_authenticate.ensures.puts git gpgv keeper after room)

pub returns-in-Ok-Some-Authenticate-clause-stores : goal.returns-in-Ok-Some-Authenticate-clause-stores
returns-in-Ok-Some-Authenticate-clause-stores g c = λ git gpgv keeper room.
    let o = outside (g.G.GitPort.table c.args.git.now) (g.V.SigPort.table c.args.gpgv.now) (g.K.Keeper.kept c.args.keeper.now) in
    let files = g.R.FileRoom.files c.args.room.now in
    let plan = c.in-Ok-Some-Authenticate.plan in
    let stated = read_is c.read_words.result (Some (Authenticate plan)) (command_of c.args.words.now) c.read_words.ensures.exact
    (c.in-Ok-Some-Authenticate.is ∙ ap (λ (x : Option Command). Ok x) (c.in-Ok-Some-Authenticate.field-0-is ∙ ap (λ (x : Command). Some x) c.in-Ok-Some-Authenticate.field-0-0-is)) in
    subst (λ (command : Option Command). StoresBy o files command c.run_authenticate.result (g.K.Keeper.stores c.args.keeper.now) (g.K.Keeper.stores c.run_authenticate.new.keeper)) (sym stated)
    (c.run_authenticate.ensures.stores git gpgv keeper room)

pub returns-in-Ok-Some-Channels-clause-puts : goal.returns-in-Ok-Some-Channels-clause-puts
returns-in-Ok-Some-Channels-clause-puts g c = λ git gpgv keeper after room.
    let o = outside (g.G.GitPort.table c.args.git.now) (g.V.SigPort.table c.args.gpgv.now) (g.K.Keeper.kept c.args.keeper.now) in
    let files = g.R.FileRoom.files c.args.room.now in
    let plan = c.in-Ok-Some-Channels.plan in
    let stated = read_is c.read_words.result (Some (Channels plan)) (command_of c.args.words.now) c.read_words.ensures.exact
    (c.in-Ok-Some-Channels.is ∙ ap (λ (x : Option Command). Ok x) (c.in-Ok-Some-Channels.field-0-is ∙ ap (λ (x : Command). Some x) c.in-Ok-Some-Channels.field-0-0-is)) in
    subst (λ (command : Option Command). PutsBy o files command (g.K.Keeper.kept c.run_channels.new.keeper)) (sym stated) (c.run_channels.ensures.puts git gpgv keeper after room)

pub returns-in-Ok-Some-Channels-clause-stores : goal.returns-in-Ok-Some-Channels-clause-stores
returns-in-Ok-Some-Channels-clause-stores g c = λ git gpgv keeper room.
    let o = outside (g.G.GitPort.table c.args.git.now) (g.V.SigPort.table c.args.gpgv.now) (g.K.Keeper.kept c.args.keeper.now) in
    let files = g.R.FileRoom.files c.args.room.now in
    let plan = c.in-Ok-Some-Channels.plan in
    let stated = read_is c.read_words.result (Some (Channels plan)) (command_of c.args.words.now) c.read_words.ensures.exact
    (c.in-Ok-Some-Channels.is ∙ ap (λ (x : Option Command). Ok x) (c.in-Ok-Some-Channels.field-0-is ∙ ap (λ (x : Command). Some x) c.in-Ok-Some-Channels.field-0-0-is)) in
    subst (λ (command : Option Command). StoresBy o files command c.run_channels.result (g.K.Keeper.stores c.args.keeper.now) (g.K.Keeper.stores c.run_channels.new.keeper)) (sym stated)
    (c.run_channels.ensures.stores git gpgv keeper room)

pub returns-in-Ok-Some-Channels-clause-set_asked : goal.returns-in-Ok-Some-Channels-clause-set_asked
returns-in-Ok-Some-Channels-clause-set_asked g c = λ other is git gpgv keeper room.
    let o = outside (g.G.GitPort.table c.args.git.now) (g.V.SigPort.table c.args.gpgv.now) (g.K.Keeper.kept c.args.keeper.now) in
    let files = g.R.FileRoom.files c.args.room.now in
    let plan = c.in-Ok-Some-Channels.plan in
    let stated = read_is c.read_words.result (Some (Channels plan)) (command_of c.args.words.now) c.read_words.ensures.exact
    (c.in-Ok-Some-Channels.is ∙ ap (λ (x : Option Command). Ok x) (c.in-Ok-Some-Channels.field-0-is ∙ ap (λ (x : Command). Some x) c.in-Ok-Some-Channels.field-0-0-is)) in
    subst (λ (p : ChannelsPlan). SetAsksFor o files p c.run_channels.result (g.V.SigPort.asked c.args.gpgv.now) (g.V.SigPort.asked c.run_channels.new.gpgv)) (one_list c.args.words.now plan other stated is)
    (c.run_channels.ensures.asked git gpgv keeper room)

pub returns-in-Ok-Some-Help-clause-puts : goal.returns-in-Ok-Some-Help-clause-puts
returns-in-Ok-Some-Help-clause-puts g c = λ git gpgv keeper after room.
    puts_none (outside (g.G.GitPort.table c.args.git.now) (g.V.SigPort.table c.args.gpgv.now) (g.K.Keeper.kept c.args.keeper.now)) (g.R.FileRoom.files c.args.room.now) (command_of c.args.words.now) (g.K.Keeper.kept c.args.keeper.now) refl

pub returns-in-Ok-Some-Help-clause-stores : goal.returns-in-Ok-Some-Help-clause-stores
returns-in-Ok-Some-Help-clause-stores g c = λ git gpgv keeper room.
    let o = outside (g.G.GitPort.table c.args.git.now) (g.V.SigPort.table c.args.gpgv.now) (g.K.Keeper.kept c.args.keeper.now) in
    let files = g.R.FileRoom.files c.args.room.now in
    let stated = read_is c.read_words.result (Some Help) (command_of c.args.words.now) c.read_words.ensures.exact
    (c.in-Ok-Some-Help.is ∙ ap (λ (x : Option Command). Ok x) (c.in-Ok-Some-Help.field-0-is ∙ ap (λ (x : Command). Some x) c.in-Ok-Some-Help.field-0-0-is)) in
    let count = g.K.Keeper.stores c.args.keeper.now in
    subst (λ (command : Option Command). StoresBy o files command c.print.result count count) (sym stated) refl

pub returns-in-Ok-None-clause-puts : goal.returns-in-Ok-None-clause-puts
returns-in-Ok-None-clause-puts g c = λ git gpgv keeper after room.
    puts_none (outside (g.G.GitPort.table c.args.git.now) (g.V.SigPort.table c.args.gpgv.now) (g.K.Keeper.kept c.args.keeper.now)) (g.R.FileRoom.files c.args.room.now) (command_of c.args.words.now) (g.K.Keeper.kept c.args.keeper.now) refl

pub returns-in-Ok-None-clause-stores : goal.returns-in-Ok-None-clause-stores
returns-in-Ok-None-clause-stores g c = λ git gpgv keeper room.
    let count = g.K.Keeper.stores c.args.keeper.now in
    stores_none (outside (g.G.GitPort.table c.args.git.now) (g.V.SigPort.table c.args.gpgv.now) (g.K.Keeper.kept c.args.keeper.now)) (g.R.FileRoom.files c.args.room.now) (command_of c.args.words.now) c.tell.result count count refl (λ zero. absurd (omega (arith, zero, c.tell.ensures.status)))

pub returns-in-Err-clause-puts : goal.returns-in-Err-clause-puts
returns-in-Err-clause-puts g c = λ git gpgv keeper after room.
    puts_none (outside (g.G.GitPort.table c.args.git.now) (g.V.SigPort.table c.args.gpgv.now) (g.K.Keeper.kept c.args.keeper.now)) (g.R.FileRoom.files c.args.room.now) (command_of c.args.words.now) (g.K.Keeper.kept c.args.keeper.now) refl

pub returns-in-Err-clause-stores : goal.returns-in-Err-clause-stores
returns-in-Err-clause-stores g c = λ git gpgv keeper room.
    let count = g.K.Keeper.stores c.args.keeper.now in
    stores_none (outside (g.G.GitPort.table c.args.git.now) (g.V.SigPort.table c.args.gpgv.now) (g.K.Keeper.kept c.args.keeper.now)) (g.R.FileRoom.files c.args.room.now) (command_of c.args.words.now) c.tell-in-Err.result count count refl (λ zero. absurd (omega (arith, zero, c.tell-in-Err.ensures.status)))
