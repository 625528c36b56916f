-- What a walk over a history keeps. No public clause cites it.
use Rattle.std.specs.Prelude.{◌≡◌, ◌↔◌, ℕ, ◌<◌, ◌≤◌, true, cond, List, length, Option, Some, None, Result, Ok, Err, IsOk, IsErr, Contains, slice_index_or}
use Rattle.std.specs.Ordering.{is_gt}
use Rattle.std.specs.FinMap as map
use Rattle.commit_objects.specs.declared.commit.Commit.{Commit}
use Rattle.commit_graph.specs.Covers.{HasGeneration}
use Rattle.commit_graph.specs.Fail.{HasRoom}
use Rattle.commit_graph.specs.History.{Commits, History, Name, name_cmp, Holds, IsParent, IsLeast, IsCyclic}
use Rattle.commit_graph.specs.declared.fail.GraphFail.{GraphFail}
use Rattle.commit_graph.specs.declared.fail.GraphFail.TheVariants as graph
use Rattle.auth_rules.specs.declared.cause.What.{What}
use Rattle.auth_rules.specs.World.{World, Id}
use Rattle.auth_rules.specs.Answers.{ListsParents}
use Rattle.commit_history.specs.declared.walk.Unread.{Unread}
use Rattle.commit_history.specs.declared.walk.Walk.{Walk}
use Rattle.commit_history.specs.declared.fail.HistoryFail.{HistoryFail}
use Rattle.commit_history.specs.declared.fail.HistoryFail.TheVariants.{TooMany, Object, Cycle, GitFault, Memory}
use Rattle.commit_history.specs.Members.{IsMember, MoreThan}

-- the lesser of two commits that can't be read
abbrev pub lesser : Option Unread → Unread → Option Unread
lesser None unread = Some unread
lesser (Some other) unread = cond (is_gt (name_cmp other.id unread.id)) (Some unread) (Some other)

-- the least commit that can't be read, once one more is looked at
abbrev pub noted : Option Unread → Id → Result Commit What → Option Unread
noted least id (Ok commit) = least
noted least id (Err what) = lesser least (record { id = id; what = what })

-- why the parents of a commit aren't taken
abbrev pub TakeFails : Commits → Name → HistoryFail → Type 0
TakeFails held id TooMany = (map.get held id ≡ None) × (map.len held ≡ 1000000)
TakeFails held id (Object other what) = ⊥
TakeFails held id (Cycle other) = ⊥
TakeFails held id GitFault = ⊥
TakeFails held id Memory = HasRoom held id

-- held, and it can't be read
abbrev pub IsUnread : World → Commits → Name → Type 0
IsUnread w held c = Holds held c × IsErr (w.commit c)

-- the least of the held commits that can't be read, and why; none where each can
abbrev pub IsLeastUnread : World → Commits → Option Unread → Type 0
IsLeastUnread w held None = (c : Name) → Holds held c → IsOk (w.commit c)
IsLeastUnread w held (Some unread) = IsLeast (IsUnread w held) unread.id × (w.commit unread.id ≡ Err unread.what)

-- What holds of a walk in any world: the ids before the place are held, the one at it isn't, and the parents of what is held
-- were met.
pub record Follows (held : Commits) (met : List Name) (place : ℕ) : Type 0 where
  pub low : place ≤ length met
  pub few : map.len held ≤ 1000000
  pub before : (k : ℕ) (d : Name) → k < place → Holds held (slice_index_or met k d)
  pub next : (d : Name) → place < length met → map.get held (slice_index_or met place d) ≡ None
  pub listed : (c p : Name) → IsParent held c p → Contains met p

-- What holds of it in the world of git's answers: all is a member, with the parents that it names.
pub record Keeps (w : World) (target intro : Name) (held : Commits) (met : List Name) (unread : Option Unread) : Type 0 where
  pub met_target : Contains met target
  pub met_intro : Contains met intro
  pub met_members : (c : Name) → Contains met c → IsMember w target intro c
  pub held_members : (c : Name) → Holds held c → IsMember w target intro c
  pub lists : ListsParents w held
  pub least : IsLeastUnread w held unread

-- What was read in the end: exactly the members.
pub record IsRead (w : World) (target intro : Name) (held : Commits) (unread : Option Unread) : Type 0 where
  pub members : (c : Name) → Holds held c ↔ IsMember w target intro c
  pub few : map.len held ≤ 1000000
  pub lists : ListsParents w held
  pub least : IsLeastUnread w held unread

-- what a walk answers
abbrev pub IsWalked : World → Name → Name → Result Walk HistoryFail → Type 0
IsWalked w target intro (Ok walk) = IsRead w target intro walk.graph.held walk.unread
IsWalked w target intro (Err TooMany) = MoreThan 1000000 (IsMember w target intro)
IsWalked w target intro (Err (Object id what)) = ⊥
IsWalked w target intro (Err (Cycle id)) = ⊥
IsWalked w target intro (Err GitFault) = Unit {0}
IsWalked w target intro (Err Memory) = Unit {0}

-- a fault of git, or memory is wanting
abbrev pub IsReadFail : HistoryFail → Type 0
IsReadFail TooMany = ⊥
IsReadFail (Object id what) = ⊥
IsReadFail (Cycle id) = ⊥
IsReadFail GitFault = Unit {0}
IsReadFail Memory = Unit {0}

-- why a whole graph isn't ranked
abbrev pub IsRankFail : GraphFail → Type 0
IsRankFail graph.Present = ⊥
IsRankFail graph.Full = ⊥
IsRankFail (graph.Open id) = ⊥
IsRankFail (graph.Cycle id) = Unit {0}
IsRankFail graph.Memory = Unit {0}

-- what is answered then
abbrev pub unranked : GraphFail → HistoryFail
unranked (graph.Cycle id) = Cycle id
unranked _ = Memory

-- what ranking answers, where no parent is missing
abbrev pub RankAnswers : Commits → Result History HistoryFail → Type 0
RankAnswers held (Ok graph) = (graph ≡ record { held = held; ranked = true }) × ((c : Name) → Holds held c → HasGeneration (IsParent held) c)
RankAnswers held (Err TooMany) = ⊥
RankAnswers held (Err (Object id what)) = ⊥
RankAnswers held (Err (Cycle id)) = IsLeast (IsCyclic held) id
RankAnswers held (Err GitFault) = ⊥
RankAnswers held (Err Memory) = Unit {0}
