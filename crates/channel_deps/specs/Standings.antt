-- Whether a channel's target is authentic.
use Rattle.std.specs.Prelude.{◌≡◌, Bool, if◌then◌else◌, Option, Some, None, Result, Ok, Err}
use Rattle.std.specs.FinMap as map
use Rattle.channel_file.specs.declared.channel.Channel.{Channel}
use Rattle.channel_file.specs.declared.channel.Introduction.{Introduction}
use Rattle.auth_engine.specs.declared.task.Task.{Task}
use Rattle.auth_engine.specs.declared.task.Verdict.{Verdict}
use Rattle.auth_engine.specs.declared.engine_fail.EngineFail.{EngineFail}
use Rattle.auth_engine.specs.Outcome.{HasAuthenticTarget, IsOutcome}
use Rattle.auth_engine.specs.SoundCache.{IsSoundCache, IsSoundOrNone}
use Rattle.channel_deps.specs.declared.set.SetTask.{SetTask}
use Rattle.channel_deps.specs.declared.set.Standing.{Standing}
use Rattle.channel_deps.specs.declared.set.Standing.TheVariants.{Authentic, Older, Unchecked}
use Rattle.channel_deps.specs.declared.set_fail.SetFail.{SetFail}
use Rattle.channel_deps.specs.declared.set_fail.SetFail.TheVariants.{Channel as OfChannel}
use Rattle.channel_deps.specs.declared.known.Known.{Known}
use Rattle.channel_deps.specs.declared.known.Checked.{Checked}
use Rattle.channel_deps.specs.Outside.{Outside}
use Rattle.channel_deps.specs.Places.{task_of, cache_key}

-- what a channel's introduction is checked by, where channels are checked at all
abbrev pub introduction_for : SetTask → Channel → Option Introduction
introduction_for s channel = if s.check then channel.introduction else None

abbrev pub standing_of : Bool → Standing
standing_of older = if older then Older else Authentic

-- a verdict's standing and what it has to be kept; or the refusal, told with the channel's name
abbrev pub checked_as : Channel → Result Verdict EngineFail → Result Checked SetFail
checked_as channel (Ok verdict) = Ok (record { standing = standing_of verdict.older; cache = verdict.store })
checked_as channel (Err fail) = Err (OfChannel channel.name fail)

-- what the check of a channel's task comes to
abbrev pub IsCheckedBy : Outside → Task → Channel → Result Checked SetFail → Type 0
IsCheckedBy o task channel checked = (result : Result Verdict EngineFail)
    × IsOutcome o.answers o.verdicts task (map.get o.kept (cache_key channel)) result × (checked ≡ checked_as channel result)

-- a channel without an introduction isn't checked
abbrev pub IsChecked : Outside → SetTask → Channel → Known → Option Introduction → Result Checked SetFail → Type 0
IsChecked o s channel known (Some introduction) checked = IsCheckedBy o (task_of s.clones channel introduction known.metadata.keyring_reference known.target) channel checked
IsChecked o s channel known None checked = checked ≡ Ok (record { standing = Unchecked; cache = None })

-- a channel's target is authentic, where it is checked
abbrev pub HasAuthenticTargetFor : Outside → SetTask → Channel → Known → Option Introduction → Type 0
HasAuthenticTargetFor o s channel known (Some introduction) =
    HasAuthenticTarget o.answers o.verdicts (task_of s.clones channel introduction known.metadata.keyring_reference known.target)
HasAuthenticTargetFor o s channel known None = Unit {0}

-- what is kept for a channel is sound for its check, where it is checked
abbrev pub HasSound : Outside → SetTask → Channel → Known → Option Introduction → Type 0
HasSound o s channel known (Some introduction) =
    IsSoundCache o.answers o.verdicts (task_of s.clones channel introduction known.metadata.keyring_reference known.target) (map.get o.kept (cache_key channel))
HasSound o s channel known None = Unit {0}

-- it is sound, or no cache text
abbrev pub HasSoundOrNone : Outside → SetTask → Channel → Known → Option Introduction → Type 0
HasSoundOrNone o s channel known (Some introduction) =
    IsSoundOrNone o.answers o.verdicts (task_of s.clones channel introduction known.metadata.keyring_reference known.target) (map.get o.kept (cache_key channel))
HasSoundOrNone o s channel known None = Unit {0}
