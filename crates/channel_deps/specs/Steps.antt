-- What the steps of a check answer.
use Rattle.std.specs.Prelude.{◌≡◌, ◌↔◌, ◌⊎◌, ◌<◌, ◌≤◌, ℕ, List, [], ◌∷◌, ◌++◌, length, get_or, Bool, true, false, ◌||◌, if◌then◌else◌, Result, Ok, Err, IsTrue}
use Rattle.auth_rules.specs.declared.cause.What.{What}
use Rattle.auth_rules.specs.declared.cause.What.TheVariants.{Missing}
use Rattle.auth_rules.specs.World.{Id}
use Rattle.auth_engine.specs.declared.engine_fail.EngineFail.{EngineFail}
use Rattle.auth_engine.specs.declared.engine_fail.EngineFail.TheVariants as engine
use Rattle.commit_graph.specs.declared.relation.Relation.{Relation}
use Rattle.commit_graph.specs.declared.relation.Relation.TheVariants as relation
use Rattle.channel_file.specs.declared.channel.Channel.{Channel}
use Rattle.channel_file.specs.declared.fail.ChannelFail.{ChannelFail}
use Rattle.channel_file.specs.declared.fail.ChannelFail.TheVariants as file
use Rattle.channel_deps.specs.declared.set.Move.{Move}
use Rattle.channel_deps.specs.declared.set.Move.TheVariants.{New, Same, Forward, Back, Unrelated}
use Rattle.channel_deps.specs.declared.known.Taken.{Taken}
use Rattle.channel_deps.specs.declared.walking.Walk.{Walk}
use Rattle.channel_deps.specs.declared.set_fail.SetFail.{SetFail}
use Rattle.channel_deps.specs.declared.set_fail.SetFail.TheVariants as fail
use Rattle.channel_deps.specs.declared.set.SetTask.{SetTask}
use Rattle.channel_deps.specs.Members.{with_mentions}
use Rattle.channel_deps.specs.Outcome.{IsTakenAs}
use Rattle.channel_deps.specs.Outside.{Outside}

-- ---- refusals

-- it is this one, or want of memory
abbrev pub IsOrMemory : SetFail → SetFail → Type 0
IsOrMemory one answer = (answer ≡ one) ⊎ (answer ≡ fail.Memory)

-- A refusal of one channel, told with its name. A fault and want of memory are told as themselves.
abbrev pub IsToldOf : Channel → EngineFail → SetFail → Type 0
IsToldOf channel engine.GitFault answer = answer ≡ fail.GitFault
IsToldOf channel engine.SigFault answer = answer ≡ fail.SigFault
IsToldOf channel engine.KeepFault answer = answer ≡ fail.KeepFault
IsToldOf channel engine.Memory answer = answer ≡ fail.Memory
IsToldOf channel why answer = IsOrMemory (fail.Channel channel.name why) answer

-- a fault of a channel's metadata, told with its name
abbrev pub IsMetadataTold : Channel → ChannelFail → SetFail → Type 0
IsMetadataTold channel file.Memory answer = answer ≡ fail.Memory
IsMetadataTold channel why answer = IsOrMemory (fail.Metadata channel.name why) answer

-- ---- moves

-- whether a commit is missing; a fault and want of memory apart
abbrev pub TellsMissing : {T : Type 0} → Result T What → Result Bool SetFail → Type 0
TellsMissing found (Ok missing) = IsTrue missing ↔ (found ≡ Err Missing)
TellsMissing found (Err fail.GitFault) = Unit {0}
TellsMissing found (Err fail.Memory) = Unit {0}
TellsMissing found (Err _) = ⊥

-- a move that needs no leave
abbrev pub goes_on : Move → Bool
goes_on New = true
goes_on Same = true
goes_on Forward = true
goes_on _ = false

abbrev pub refusal_of : Channel → Move → Id → Id → SetFail
refusal_of channel Back old new = fail.Downgrade channel.name old new
refusal_of channel Unrelated old new = fail.UnrelatedMove channel.name old new
refusal_of channel _ old new = fail.DeployedMissing channel.name old

abbrev pub judged_move : Bool → Channel → Move → Id → Id → Result Move SetFail
judged_move allowed channel moved old new = if allowed || goes_on moved then Ok moved else Err (refusal_of channel moved old new)

-- the move by how the deployed commit stands to the target
abbrev pub related_move : Relation → Move
related_move relation.Same = Same
related_move relation.Ancestor = Forward
related_move relation.Descendant = Back
related_move relation.Unrelated = Unrelated

-- ---- members

-- The mentions were added, and there is room for them; or there are too many, or memory is wanting.
abbrev pub Adds : List Channel → List Channel → List Channel → Result (Unit {0}) SetFail → Type 0
Adds list mentions new (Ok done) = (new ≡ with_mentions list mentions) × (length new ≤ 256)
Adds list mentions new (Err fail.TooManyChannels) = 256 < length (with_mentions list mentions)
Adds list mentions new (Err fail.Memory) = Unit {0}
Adds list mentions new (Err _) = ⊥

-- The next channel was taken: its line, what is to be kept for it, and its mentions are put behind the others.
pub record HasTakenUp (old : Walk) (taken : Taken) (new : Walk) : Type 0 where
  pub list : new.list ≡ with_mentions old.list taken.mentions
  pub few : length new.list ≤ 256
  pub members : new.members ≡ old.members ++ taken.member ∷ []
  pub store : new.store ≡ old.store ++ taken.store

-- it was, or its mentions are too many, or memory is wanting
abbrev pub TakesUp : Walk → Taken → Result Walk SetFail → Type 0
TakesUp old taken (Ok new) = HasTakenUp old taken new
TakesUp old taken (Err fail.TooManyChannels) = 256 < length (with_mentions old.list taken.mentions)
TakesUp old taken (Err fail.Memory) = Unit {0}
TakesUp old taken (Err _) = ⊥

-- the channel of this number in a list
pub record IsAt (list : List Channel) (i : ℕ) (channel : Channel) : Type 0 where
  pub within : i < length list
  pub here : channel ≡ get_or list i channel

-- a channel was taken, and taken up; or its mentions are too many, or it is refused
abbrev pub TakesOne : Outside → SetTask → Channel → Walk → Result Walk SetFail → Type 0
TakesOne o s channel walk (Ok new) = (taken : Taken) × IsTakenAs o s channel (Ok taken) × HasTakenUp walk taken new
TakesOne o s channel walk (Err fail.TooManyChannels) = (taken : Taken) × IsTakenAs o s channel (Ok taken) × (256 < length (with_mentions walk.list taken.mentions))
TakesOne o s channel walk (Err why) = IsTakenAs o s channel (Err why)

-- the same of the channel of this number
abbrev pub TakesNext : Outside → SetTask → ℕ → Walk → Result Walk SetFail → Type 0
TakesNext o s i walk result = (channel : Channel) × IsAt walk.list i channel × TakesOne o s channel walk result
