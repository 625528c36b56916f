-- How a channel's target stands to the commit that is deployed.
use Rattle.std.specs.Prelude.{◌≡◌, ◌≢◌, ℕ, List, [], Bool, codes, ◌++◌, if◌then◌else◌, Option, Result, Ok, Err, MatchOption, IfErr}
use Rattle.std.specs.FinMap as map
use Rattle.hex.specs.Hex.{encode_lower}
use Rattle.child_ports.specs.declared.git.GitRow.{GitRow}
use Rattle.object_frames.specs.Id.{IsId}
use Rattle.channel_file.specs.declared.channel.Channel.{Channel}
use Rattle.commit_graph.specs.declared.relation.Relation.{Relation}
use Rattle.commit_graph.specs.declared.relation.Relation.TheVariants as relation
use Rattle.auth_rules.specs.declared.cause.What.TheVariants.{Missing}
use Rattle.auth_rules.specs.World.{Id, world_of, commit_at}
use Rattle.auth_engine.specs.declared.engine_fail.EngineFail.{EngineFail}
use Rattle.auth_engine.specs.Answers.{IsStop}
use Rattle.channel_clone.specs.Relations.{IsRelationAnswer}
use Rattle.channel_deps.specs.declared.set.Move.{Move}
use Rattle.channel_deps.specs.declared.set.Move.TheVariants.{New, Same, Forward, Back, Unrelated, Lost}
use Rattle.channel_deps.specs.declared.set_fail.SetFail.{SetFail}
use Rattle.channel_deps.specs.declared.set_fail.SetFail.TheVariants.{Channel as OfChannel, Record, Downgrade, UnrelatedMove, DeployedMissing}
use Rattle.channel_deps.specs.Outside.{Outside}
use Rattle.channel_deps.specs.Places.{clone_of, deployed_key}

-- the record of a deployed commit: its 40 lower-case digits and a line feed
abbrev pub record_of : Id → List ℕ
record_of id = encode_lower id ++ codes "\n"

-- a move that is refused unless going back is allowed
abbrev pub if_allowed : Bool → Move → SetFail → Result Move SetFail
if_allowed allowed move fail = if allowed then Ok move else Err fail

-- the move from the deployed commit, which stands so to the target
abbrev pub move_by : Bool → Channel → Id → Id → Relation → Result Move SetFail
move_by allowed channel old new relation.Same = Ok Same
move_by allowed channel old new relation.Ancestor = Ok Forward
move_by allowed channel old new relation.Descendant = if_allowed allowed Back (Downgrade channel.name old new)
move_by allowed channel old new relation.Unrelated = if_allowed allowed Unrelated (UnrelatedMove channel.name old new)

abbrev pub move_of : Bool → Channel → Id → Id → Result Relation EngineFail → Result Move SetFail
move_of allowed channel old new (Ok found) = move_by allowed channel old new found
move_of allowed channel old new (Err fail) = Err (OfChannel channel.name fail)

-- The move from a commit that is there. A fault of git's port and want of memory are no answer on how two commits stand.
abbrev pub IsMoveBetween : List GitRow → List ℕ → Bool → Channel → Id → Id → Result Move SetFail → Type 0
IsMoveBetween rows dir allowed channel old new moved = (found : Result Relation EngineFail)
    × IsRelationAnswer (world_of rows dir [] []) old new found × IfErr found (λ fail. ¬ IsStop fail) × (moved ≡ move_of allowed channel old new found)

-- the move from the commit of a record: a commit that is missing was lost
pub record IsMoveFrom (rows : List GitRow) (dir : List ℕ) (allowed : Bool) (channel : Channel) (old new : Id) (moved : Result Move SetFail) : Type 0 where
  pub lost : commit_at rows dir old ≡ Err Missing → moved ≡ if_allowed allowed Lost (DeployedMissing channel.name old)
  pub there : commit_at rows dir old ≢ Err Missing → IsMoveBetween rows dir allowed channel old new moved

-- bytes are the record of a commit
abbrev pub IsRecorded : List ℕ → Id → Type 0
IsRecorded bytes id = IsId id × (bytes ≡ record_of id)

-- the move from a record: what is none is refused
abbrev pub IsMoveOver : List GitRow → List ℕ → Bool → Channel → Id → List ℕ → Result Move SetFail → Type 0
IsMoveOver rows dir allowed channel new bytes moved =
    ((old : Id) → IsRecorded bytes old → IsMoveFrom rows dir allowed channel old new moved)
    × (((old : Id) → ¬ IsRecorded bytes old) → moved ≡ Err (Record channel.name))

-- the move to a channel's target: without a record it is new
abbrev pub IsMoveIn : List GitRow → Option (List ℕ) → List ℕ → Bool → Channel → Id → Result Move SetFail → Type 0
IsMoveIn rows kept dir allowed channel new moved = MatchOption kept (moved ≡ Ok New) (λ bytes. IsMoveOver rows dir allowed channel new bytes moved)

-- the move of a channel to its target, from what is kept of it
abbrev pub IsMove : Outside → List ℕ → Bool → Channel → Id → Result Move SetFail → Type 0
IsMove o clones allowed channel new moved = IsMoveIn o.answers (map.get o.kept (deployed_key channel)) (clone_of clones channel) allowed channel new moved
