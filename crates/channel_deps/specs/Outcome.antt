-- What a set of channels comes to: the first refusal, or the verdict.
use Rattle.std.specs.Prelude.{◌≡◌, ℕ, ◌<◌, ◌≤◌, List, [], ◌∷◌, ◌++◌, map, flat_map, length, is_some, Option, Some, None, Result, Ok, Err, MatchResult, IfOk}
use Rattle.child_ports.specs.declared.keeper.Pair.{Pair}
use Rattle.channel_file.specs.declared.channel.Channel.{Channel}
use Rattle.channel_deps.specs.declared.set.SetTask.{SetTask}
use Rattle.channel_deps.specs.declared.set.SetVerdict.{SetVerdict}
use Rattle.channel_deps.specs.declared.set.Move.{Move}
use Rattle.channel_deps.specs.declared.set.Move.TheVariants as move
use Rattle.channel_deps.specs.declared.set_fail.SetFail.{SetFail}
use Rattle.channel_deps.specs.declared.set_fail.SetFail.TheVariants.{TooManyChannels}
use Rattle.channel_deps.specs.declared.known.Known.{Known}
use Rattle.channel_deps.specs.declared.known.Checked.{Checked}
use Rattle.channel_deps.specs.declared.known.Taken.{Taken}
use Rattle.channel_deps.specs.Members.{with_mentions}
use Rattle.channel_deps.specs.Moves.{IsMove, record_of}
use Rattle.channel_deps.specs.Outside.{Outside}
use Rattle.channel_deps.specs.Places.{deployed_key}
use Rattle.channel_deps.specs.Reading.{known_of}
use Rattle.channel_deps.specs.Standings.{introduction_for, IsChecked, HasSound, HasSoundOrNone}

-- ---- one channel

abbrev pub cache_pairs : Option Pair → List Pair
cache_pairs None = []
cache_pairs (Some pair) = pair ∷ []

-- the deployed commit of a channel
abbrev pub deployed_pair : Channel → List ℕ → Pair
deployed_pair channel target = record { key = deployed_key channel; value = record_of target }

-- a move that stays where it is has nothing to be recorded
abbrev pub deployed_pairs : Channel → Move → List ℕ → List Pair
deployed_pairs channel move.Same target = []
deployed_pairs channel _ target = deployed_pair channel target ∷ []

-- what is to be kept for a channel
abbrev pub stored_pairs : Channel → Option Pair → Move → List ℕ → List Pair
stored_pairs channel cache moved target = cache_pairs cache ++ deployed_pairs channel moved target

-- what is found of a channel: its line, what is to be kept for it, and what it mentions
abbrev pub taken_as : Channel → Known → Checked → Move → Taken
taken_as channel known checked moved = record {
  member = record {
    name = channel.name;
    target = known.target;
    moved = moved;
    standing = checked.standing;
    url = channel.url;
    primary = known.metadata.url;
    introduced = is_some channel.introduction;
  };
  store = stored_pairs channel checked.cache moved known.target;
  mentions = known.metadata.dependencies;
}

-- The first refusal of a channel: its target, its metadata, its check, its move; or what is found of it.
abbrev pub IsTakenAs : Outside → SetTask → Channel → Result Taken SetFail → Type 0
IsTakenAs o s channel result = MatchResult (known_of o.answers s.clones channel)
    (λ known. (checked : Result Checked SetFail) × IsChecked o s channel known (introduction_for s channel) checked × MatchResult checked
    (λ check. (moved : Result Move SetFail) × IsMove o s.clones s.allow_downgrades channel known.target moved × MatchResult moved
    (λ to. result ≡ Ok (taken_as channel known check to))
    (λ fail. result ≡ Err fail))
    (λ fail. result ≡ Err fail))
    (λ fail. result ≡ Err fail)

-- what is kept for a channel is sound for its check
abbrev pub HasSoundCache : Outside → SetTask → Channel → Type 0
HasSoundCache o s channel = IfOk (known_of o.answers s.clones channel) (λ known. HasSound o s channel known (introduction_for s channel))

-- it is sound, or no cache text
abbrev pub HasSoundRecord : Outside → SetTask → Channel → Type 0
HasSoundRecord o s channel = IfOk (known_of o.answers s.clones channel) (λ known. HasSoundOrNone o s channel known (introduction_for s channel))

-- ---- the set

-- the list of channels, as it is known once these were taken: the given ones, then the first mention of each other name
abbrev pub listed : SetTask → List Taken → List Channel
listed s taken = with_mentions s.channels (flat_map (λ (t : Taken). t.mentions) taken)

-- what is found of channels, one after another
abbrev pub AreTakenAs : Outside → SetTask → List Channel → List Taken → Type 0
AreTakenAs o s [] [] = Unit {0}
AreTakenAs o s (channel ∷ channels) (t ∷ taken) = IsTakenAs o s channel (Ok t) × AreTakenAs o s channels taken
AreTakenAs o s _ _ = ⊥

-- These channels were taken, and these are left. Each was mentioned by one before it, or given.
pub record HasTaken (o : Outside) (s : SetTask) (channels : List Channel) (taken : List Taken) (left : List Channel) : Type 0 where
  pub found : AreTakenAs o s channels taken
  pub list : listed s taken ≡ channels ++ left
  pub few : length (channels ++ left) ≤ 256
  pub known : (before after : List Taken) (t : Taken) → taken ≡ before ++ t ∷ after → length before < length (listed s before)

-- the verdict on the set: all were taken
pub record IsSetVerdict (o : Outside) (s : SetTask) (verdict : SetVerdict) : Type 0 where
  pub channels : List Channel
  pub taken : List Taken
  pub whole : HasTaken o s channels taken []
  pub members : verdict.members ≡ map (λ (t : Taken). t.member) taken
  pub store : verdict.store ≡ flat_map (λ (t : Taken). t.store) taken

-- the check comes to this channel: it is the next, once these were taken
pub record ComesTo (o : Outside) (s : SetTask) (channel : Channel) : Type 0 where
  pub channels : List Channel
  pub taken : List Taken
  pub left : List Channel
  pub front : HasTaken o s channels taken (channel ∷ left)

-- the refusal of the channel to which it comes
pub record IsRefusedAt (o : Outside) (s : SetTask) (fail : SetFail) : Type 0 where
  pub channel : Channel
  pub comes : ComesTo o s channel
  pub refused : IsTakenAs o s channel (Err fail)

-- the channel to which it comes passes, but its mentions are too many
pub record HasTooMany (o : Outside) (s : SetTask) : Type 0 where
  pub channel : Channel
  pub comes : ComesTo o s channel
  pub last : Taken
  pub found : IsTakenAs o s channel (Ok last)
  pub many : 256 < length (listed s (comes.taken ++ last ∷ []))

abbrev pub IsSetOutcome : Outside → SetTask → Result SetVerdict SetFail → Type 0
IsSetOutcome o s (Ok verdict) = IsSetVerdict o s verdict
IsSetOutcome o s (Err TooManyChannels) = HasTooMany o s
IsSetOutcome o s (Err fail) = IsRefusedAt o s fail

-- what is kept for each channel to which the check comes is sound for the channel's own check
abbrev pub HasSoundCaches : Outside → SetTask → Type 0
HasSoundCaches o s = (channel : Channel) → ComesTo o s channel → HasSoundCache o s channel

-- it is sound, or no cache text
abbrev pub AreSoundOrNone : Outside → SetTask → Type 0
AreSoundOrNone o s = (channel : Channel) → ComesTo o s channel → HasSoundRecord o s channel
