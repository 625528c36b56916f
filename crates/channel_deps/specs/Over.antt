-- What channels come to over what is kept for them, sound or not.
use Rattle.std.specs.Prelude.{◌≡◌, ◌<◌, ◌≤◌, List, [], ◌∷◌, ◌++◌, length, map, flat_map, Option, Some, None, Ok, MatchResult}
use Rattle.std.specs.FinMap as maps
use Rattle.channel_file.specs.declared.channel.Channel.{Channel}
use Rattle.channel_file.specs.declared.channel.Introduction.{Introduction}
use Rattle.auth_engine.specs.declared.task.Verdict.{Verdict}
use Rattle.auth_engine.specs.Outcome.{IsVerdictOver}
use Rattle.channel_deps.specs.declared.set.SetTask.{SetTask}
use Rattle.channel_deps.specs.declared.set.SetVerdict.{SetVerdict}
use Rattle.channel_deps.specs.declared.set.Move.{Move}
use Rattle.channel_deps.specs.declared.set.Standing.TheVariants.{Unchecked}
use Rattle.channel_deps.specs.declared.known.Known.{Known}
use Rattle.channel_deps.specs.declared.known.Checked.{Checked}
use Rattle.channel_deps.specs.declared.known.Taken.{Taken}
use Rattle.channel_deps.specs.Moves.{IsMove}
use Rattle.channel_deps.specs.Outcome.{taken_as, listed}
use Rattle.channel_deps.specs.Outside.{Outside}
use Rattle.channel_deps.specs.Places.{task_of, cache_key}
use Rattle.channel_deps.specs.Reading.{known_of}
use Rattle.channel_deps.specs.Standings.{introduction_for, standing_of}

-- the verdict on a channel's target, over what is kept for the channel
abbrev pub IsChannelVerdict : Outside → SetTask → Channel → Known → Introduction → Verdict → Type 0
IsChannelVerdict o s channel known introduction verdict =
    IsVerdictOver o.answers o.verdicts (task_of s.clones channel introduction known.metadata.keyring_reference known.target) (maps.get o.kept (cache_key channel)) verdict

-- what the check of a channel that passes comes to
abbrev pub IsCheckedOver : Outside → SetTask → Channel → Known → Option Introduction → Checked → Type 0
IsCheckedOver o s channel known (Some introduction) checked = (verdict : Verdict) × IsChannelVerdict o s channel known introduction verdict
    × (checked ≡ record { standing = standing_of verdict.older; cache = verdict.store })
IsCheckedOver o s channel known None checked = checked ≡ record { standing = Unchecked; cache = None }

-- what is found of a channel that passes: its line, what is to be kept for it, and what it mentions
abbrev pub IsTakenOver : Outside → SetTask → Channel → Taken → Type 0
IsTakenOver o s channel taken = MatchResult (known_of o.answers s.clones channel)
    (λ known. (check : Checked) × IsCheckedOver o s channel known (introduction_for s channel) check
    × (to : Move) × IsMove o s.clones s.allow_downgrades channel known.target (Ok to) × (taken ≡ taken_as channel known check to))
    (λ _. ⊥)

-- the same of channels, one after another
abbrev pub AreTakenOver : Outside → SetTask → List Channel → List Taken → Type 0
AreTakenOver o s [] [] = Unit {0}
AreTakenOver o s (channel ∷ channels) (t ∷ taken) = IsTakenOver o s channel t × AreTakenOver o s channels taken
AreTakenOver o s _ _ = ⊥

-- These channels passed, over what is kept for each, and these are left. Each was mentioned by one before it, or given.
pub record HasTakenOver (o : Outside) (s : SetTask) (channels : List Channel) (taken : List Taken) (left : List Channel) : Type 0 where
  pub found : AreTakenOver o s channels taken
  pub list : listed s taken ≡ channels ++ left
  pub few : length (channels ++ left) ≤ 256
  pub known : (before after : List Taken) (t : Taken) → taken ≡ before ++ t ∷ after → length before < length (listed s before)

-- The verdict on a set, whatever is kept: these are its channels, and all passed. What is to be kept is that of each of them.
pub record IsSetVerdictOver (o : Outside) (s : SetTask) (verdict : SetVerdict) : Type 0 where
  pub channels : List Channel
  pub taken : List Taken
  pub whole : HasTakenOver o s channels taken []
  pub members : verdict.members ≡ map (λ (t : Taken). t.member) taken
  pub store : verdict.store ≡ flat_map (λ (t : Taken). t.store) taken
