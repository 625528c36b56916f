-- What follows from the definitions: accepted channels are authentic, and sound caches tell the outcome.
use Rattle.std.proofs.Common.{◌≡◌, Option, Some, None, Ok, Err, refl, ap}
use Rattle.std.specs.Prelude.{Result, IfOk, MatchResult}
use Rattle.std.specs.FinMap as map
use Rattle.auth_engine.proofs.OutcomeLemmas.{accepted_authentic, sound_or_none}
use Rattle.auth_engine.specs.Outcome.{IsOutcome}
use Rattle.auth_engine.specs.declared.engine_fail.EngineFail.{EngineFail}
use Rattle.auth_engine.specs.declared.task.Verdict.{Verdict}
use Rattle.channel_file.specs.declared.channel.Channel.{Channel}
use Rattle.channel_file.specs.declared.channel.Introduction.{Introduction}
use Rattle.channel_deps.specs.declared.known.Checked.{Checked}
use Rattle.channel_deps.specs.declared.known.Known.{Known}
use Rattle.channel_deps.specs.declared.known.Taken.{Taken}
use Rattle.channel_deps.specs.declared.set.Move.{Move}
use Rattle.channel_deps.specs.declared.set.SetTask.{SetTask}
use Rattle.channel_deps.specs.declared.set_fail.SetFail.{SetFail}
use Rattle.channel_deps.specs.Moves.{IsMove}
use Rattle.channel_deps.specs.Outcome.{taken_as, IsTakenAs, HasSoundCaches, AreSoundOrNone}
use Rattle.channel_deps.specs.Outside.{Outside}
use Rattle.channel_deps.specs.Places.{task_of, cache_key}
use Rattle.channel_deps.specs.Reading.{known_of}
use Rattle.channel_deps.specs.Standings.{introduction_for, checked_as, IsChecked, HasSound, HasSoundOrNone, HasAuthenticTargetFor}

module _ (o : Outside) (s : SetTask) (channel : Channel) where
  -- ---- accepted

  by_verdict : (known : Known) (introduction : Introduction) (check : Checked) (result : Result Verdict EngineFail)
      → IsOutcome o.answers o.verdicts (task_of s.clones channel introduction known.metadata.keyring_reference known.target) (map.get o.kept (cache_key channel)) result
      → Ok check ≡ checked_as channel result → HasAuthenticTargetFor o s channel known (Some introduction)
  by_verdict known introduction check (Ok verdict) outcome is =
      accepted_authentic o.answers o.verdicts (task_of s.clones channel introduction known.metadata.keyring_reference known.target) (map.get o.kept (cache_key channel)) verdict outcome
  by_verdict known introduction check (Err e) outcome is = absurd (cc)

  by_check : (known : Known) (introduction : Option Introduction) (check : Checked) → IsChecked o s channel known introduction (Ok check) → HasAuthenticTargetFor o s channel known introduction
  by_check known (Some introduction) check is = by_verdict known introduction check is.0 is.1 is.2
  by_check known None check is = tt

  -- a channel that is taken was checked, and has the target that was read
  abbrev Taking : Taken → Result Known SetFail → Type 0
  Taking taken k = (known : Known) × (k ≡ Ok known) × (taken.member.target ≡ known.target) × HasAuthenticTargetFor o s channel known (introduction_for s channel)

  target_of : (known : Known) (check : Checked) (to : Move) (taken : Taken) → ◌≡◌ {A = Result Taken SetFail} (Ok taken) (Ok (taken_as channel known check to)) → taken.member.target ≡ known.target
  target_of known check to taken is = let same : taken ≡ taken_as channel known check to = cc in ap (λ (t : Taken). t.member.target) same

  by_move : (known : Known) (check : Checked) (taken : Taken) (moved : Result Move SetFail)
      → MatchResult moved (λ to. ◌≡◌ {A = Result Taken SetFail} (Ok taken) (Ok (taken_as channel known check to))) (λ e. ◌≡◌ {A = Result Taken SetFail} (Ok taken) (Err e)) → taken.member.target ≡ known.target
  by_move known check taken (Ok to) is = target_of known check to taken is
  by_move known check taken (Err e) is = absurd (cc)

  by_checked : (known : Known) (taken : Taken) (checked : Result Checked SetFail) → IsChecked o s channel known (introduction_for s channel) checked
      → MatchResult checked (λ check. (moved : Result Move SetFail) × IsMove o s.clones s.allow_downgrades channel known.target moved × MatchResult moved
      (λ to. ◌≡◌ {A = Result Taken SetFail} (Ok taken) (Ok (taken_as channel known check to))) (λ e. ◌≡◌ {A = Result Taken SetFail} (Ok taken) (Err e)))
      (λ e. ◌≡◌ {A = Result Taken SetFail} (Ok taken) (Err e)) → Taking taken (Ok known)
  by_checked known taken (Ok check) is next = (known, refl, by_move known check taken next.0 next.2, by_check known (introduction_for s channel) check is)
  by_checked known taken (Err e) is next = absurd (cc)

  by_known : (taken : Taken) (k : Result Known SetFail) → MatchResult k
      (λ known. (checked : Result Checked SetFail) × IsChecked o s channel known (introduction_for s channel) checked × MatchResult checked
      (λ check. (moved : Result Move SetFail) × IsMove o s.clones s.allow_downgrades channel known.target moved × MatchResult moved
      (λ to. ◌≡◌ {A = Result Taken SetFail} (Ok taken) (Ok (taken_as channel known check to))) (λ e. ◌≡◌ {A = Result Taken SetFail} (Ok taken) (Err e)))
      (λ e. ◌≡◌ {A = Result Taken SetFail} (Ok taken) (Err e)))
      (λ e. ◌≡◌ {A = Result Taken SetFail} (Ok taken) (Err e)) → Taking taken k
  by_known taken (Ok known) is = by_checked known taken is.0 is.1 is.2
  by_known taken (Err e) is = absurd (cc)

  pub taken_authentic : (taken : Taken) → IsTakenAs o s channel (Ok taken) → Taking taken (known_of o.answers s.clones channel)
  taken_authentic taken is = by_known taken (known_of o.answers s.clones channel) is

  -- ---- sound caches

  sound_for : (known : Known) (introduction : Option Introduction) → HasSound o s channel known introduction → HasSoundOrNone o s channel known introduction
  sound_for known (Some introduction) sound = sound_or_none o.answers o.verdicts (task_of s.clones channel introduction known.metadata.keyring_reference known.target) (map.get o.kept (cache_key channel)) sound
  sound_for known None sound = tt

  sound_in : (k : Result Known SetFail) → IfOk k (λ known. HasSound o s channel known (introduction_for s channel)) → IfOk k (λ known. HasSoundOrNone o s channel known (introduction_for s channel))
  sound_in (Ok known) sound = sound_for known (introduction_for s channel) sound
  sound_in (Err e) sound = tt

pub caches_sound : (o : Outside) (s : SetTask) → HasSoundCaches o s → AreSoundOrNone o s
caches_sound o s sound = λ channel comes. sound_in o s channel (known_of o.answers s.clones channel) (sound channel comes)
