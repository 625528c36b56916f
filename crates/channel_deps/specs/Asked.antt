-- How many questions gpgv is asked for a set.
use Rattle.std.specs.Prelude.{◌≡◌, ◌⊎◌, ◌+◌, ℕ, List, [], ◌∷◌, Option, Some, None, Result, Ok, Err, MatchResult}
use Rattle.std.specs.FinMap as maps
use Rattle.channel_file.specs.declared.channel.Channel.{Channel}
use Rattle.channel_file.specs.declared.channel.Introduction.{Introduction}
use Rattle.auth_engine.specs.declared.task.Verdict.{Verdict}
use Rattle.auth_engine.specs.declared.engine_fail.EngineFail.{EngineFail}
use Rattle.auth_engine.specs.Asked.{Asks}
use Rattle.auth_engine.specs.Judging.{more}
use Rattle.channel_deps.specs.declared.set.SetTask.{SetTask}
use Rattle.channel_deps.specs.declared.set.SetVerdict.{SetVerdict}
use Rattle.channel_deps.specs.declared.set_fail.SetFail.{SetFail}
use Rattle.channel_deps.specs.declared.set_fail.SetFail.TheVariants.{GitFault, SigFault, KeepFault, Memory}
use Rattle.channel_deps.specs.declared.known.Known.{Known}
use Rattle.channel_deps.specs.declared.known.Checked.{Checked}
use Rattle.channel_deps.specs.declared.known.Taken.{Taken}
use Rattle.channel_deps.specs.declared.walking.Walk.{Walk}
use Rattle.channel_deps.specs.Outside.{Outside}
use Rattle.channel_deps.specs.Over.{IsChannelVerdict, IsTakenOver, HasTakenOver, IsSetVerdictOver}
use Rattle.channel_deps.specs.Places.{task_of, cache_key}
use Rattle.channel_deps.specs.Reading.{known_of}
use Rattle.channel_deps.specs.Standings.{introduction_for}
use Rattle.channel_deps.specs.Steps.{IsToldOf, IsAt, HasTakenUp}

-- ---- one channel

-- one question for the introduction of a channel, and one for each commit that was judged; none where it isn't checked
abbrev pub AsksToPass : Outside → SetTask → Channel → Known → Option Introduction → ℕ → ℕ → Type 0
AsksToPass o s channel known (Some introduction) before now = (verdict : Verdict) × IsChannelVerdict o s channel known introduction verdict × (now ≡ more (1 + verdict.judged) before)
AsksToPass o s channel known None before now = now ≡ before

-- the questions of a check that refuses the channel
abbrev pub AsksToRefuse : Outside → SetTask → Channel → Known → Option Introduction → SetFail → ℕ → ℕ → Type 0
AsksToRefuse o s channel known (Some introduction) fail before now = (why : EngineFail) × IsToldOf channel why fail
    × Asks o.answers o.verdicts (task_of s.clones channel introduction known.metadata.keyring_reference known.target) (maps.get o.kept (cache_key channel)) (Err why) before now
AsksToRefuse o s channel known None fail before now = ⊥

-- a fault and want of memory may come before any question
abbrev pub StopsUnasked : SetFail → ℕ → ℕ → Type 0
StopsUnasked GitFault before now = now ≡ before
StopsUnasked SigFault before now = now ≡ before
StopsUnasked KeepFault before now = now ≡ before
StopsUnasked Memory before now = now ≡ before
StopsUnasked _ before now = ⊥

-- the questions of a channel that passes
abbrev pub AsksPassed : Outside → SetTask → Channel → ℕ → ℕ → Type 0
AsksPassed o s channel before now = MatchResult (known_of o.answers s.clones channel)
    (λ known. AsksToPass o s channel known (introduction_for s channel) before now)
    (λ _. ⊥)

-- The questions of a channel where the check of the set ends: those of its check, whether it passed or not; none where it can't be
-- read.
abbrev pub AsksStopped : Outside → SetTask → Channel → SetFail → ℕ → ℕ → Type 0
AsksStopped o s channel fail before now = StopsUnasked fail before now ⊎ MatchResult (known_of o.answers s.clones channel)
    (λ known. AsksToPass o s channel known (introduction_for s channel) before now ⊎ AsksToRefuse o s channel known (introduction_for s channel) fail before now)
    (λ _. now ≡ before)

-- ---- the set

-- the questions of channels that pass, one after another
abbrev pub AsksEach : Outside → SetTask → List Channel → ℕ → ℕ → Type 0
AsksEach o s [] before now = now ≡ before
AsksEach o s (channel ∷ channels) before now = (between : ℕ) × AsksPassed o s channel before between × AsksEach o s channels between now

-- the questions of a set that isn't accepted: those of the channels that passed, and then of the next, where it ends
pub record AsksUpTo (o : Outside) (s : SetTask) (fail : SetFail) (before now : ℕ) : Type 0 where
  pub channels : List Channel
  pub taken : List Taken
  pub channel : Channel
  pub left : List Channel
  pub front : HasTakenOver o s channels taken (channel ∷ left)
  pub between : ℕ
  pub passed : AsksEach o s channels before between
  pub last : AsksStopped o s channel fail between now

-- The questions of a set: those of each of its channels, or up to the one where it ends. Want of memory may come before all.
abbrev pub AsksSet : Outside → SetTask → Result SetVerdict SetFail → ℕ → ℕ → Type 0
AsksSet o s (Ok verdict) before now = (over : IsSetVerdictOver o s verdict) × AsksEach o s over.channels before now
AsksSet o s (Err fail) before now = ((fail ≡ Memory) × (now ≡ before)) ⊎ AsksUpTo o s fail before now

-- ---- the steps

-- the questions of the check of a channel
abbrev pub AsksChecking : Outside → SetTask → Channel → Known → Option Introduction → Result Checked SetFail → ℕ → ℕ → Type 0
AsksChecking o s channel known introduction (Ok checked) before now = AsksToPass o s channel known introduction before now
AsksChecking o s channel known introduction (Err fail) before now = StopsUnasked fail before now ⊎ AsksToRefuse o s channel known introduction fail before now

-- the questions of a channel that is taken
abbrev pub AsksTaking : Outside → SetTask → Channel → Result Taken SetFail → ℕ → ℕ → Type 0
AsksTaking o s channel (Ok taken) before now = AsksPassed o s channel before now
AsksTaking o s channel (Err fail) before now = AsksStopped o s channel fail before now

-- a channel passed, and was taken up; or the set ends with it
abbrev pub GoesOn : Outside → SetTask → Channel → Walk → Result Walk SetFail → ℕ → ℕ → Type 0
GoesOn o s channel walk (Ok new) before now = (taken : Taken) × IsTakenOver o s channel taken × HasTakenUp walk taken new × AsksPassed o s channel before now
GoesOn o s channel walk (Err fail) before now = AsksStopped o s channel fail before now

-- the same of the channel of this number
abbrev pub GoesNext : Outside → SetTask → ℕ → Walk → Result Walk SetFail → ℕ → ℕ → Type 0
GoesNext o s i walk result before now = (channel : Channel) × IsAt walk.list i channel × GoesOn o s channel walk result before now
