-- What the reading of a history answers.
use Rattle.std.specs.Prelude.{◌≡◌, ◌↔◌, Bool, true, false, Result, Ok, Err, IsErr, IsTrue}
use Rattle.commit_graph.specs.Chains.{HasNoGeneration}
use Rattle.commit_graph.specs.Covers.{HasGeneration}
use Rattle.commit_graph.specs.History.{History, Holds, IsLeast, IsParent, IsWhole as WholeGraph}
use Rattle.auth_rules.specs.World.{World, Id}
use Rattle.auth_rules.specs.Answers.{ListsParents}
use Rattle.commit_history.specs.declared.fail.HistoryFail.{HistoryFail}
use Rattle.commit_history.specs.declared.fail.HistoryFail.TheVariants.{TooMany, Object, Cycle, GitFault, Memory}
use Rattle.commit_history.specs.Members.{AtMost, MoreThan, history, IsMember, IsSound, IsWhole}

-- The graph has exactly what the target and the introduction reach, with the parents that the commits name, and is ranked.
pub record HoldsHistory (w : World) (target intro : Id) (graph : History) : Type 0 where
  pub members : (c : Id) → Holds graph.held c ↔ IsMember w target intro c
  pub lists : ListsParents w graph.held
  pub ranked : IsTrue graph.ranked

-- a member that can't be read
abbrev pub IsUnsoundMember : World → Id → Id → Id → Type 0
IsUnsoundMember w target intro c = IsMember w target intro c × IsErr (w.commit c)

-- a member without a generation
abbrev pub IsEndlessMember : World → Id → Id → Id → Type 0
IsEndlessMember w target intro c = IsMember w target intro c × HasNoGeneration (history w) c

-- The history, where all of it can be judged; else the first refusal that applies. A fault has a clause of its own.
abbrev pub IsHistoryAnswer : World → Id → Id → Result History HistoryFail → Type 0
IsHistoryAnswer w target intro (Ok graph) =
    IsWhole w target intro × HoldsHistory w target intro graph
IsHistoryAnswer w target intro (Err TooMany) =
    MoreThan 1000000 (IsMember w target intro)
IsHistoryAnswer w target intro (Err (Object id what)) =
    AtMost 1000000 (IsMember w target intro)
    × IsLeast (IsUnsoundMember w target intro) id × (w.commit id ≡ Err what)
IsHistoryAnswer w target intro (Err (Cycle id)) =
    AtMost 1000000 (IsMember w target intro)
    × ((c : Id) → IsMember w target intro c → IsSound w c)
    × IsLeast (IsEndlessMember w target intro) id
IsHistoryAnswer w target intro (Err GitFault) = Unit {0}
IsHistoryAnswer w target intro (Err Memory) = Unit {0}

-- The graph can be asked: it is ranked and whole, has both commits, and each of its commits has a generation.
pub record IsUsable (target intro : Id) (graph : History) : Type 0 where
  pub ranked : IsTrue graph.ranked
  pub holds_target : Holds graph.held target
  pub holds_intro : Holds graph.held intro
  pub whole : WholeGraph graph.held
  pub few : AtMost 1000000 (Holds graph.held)
  pub acyclic : (c : Id) → Holds graph.held c → HasGeneration (IsParent graph.held) c

abbrev pub is_git_fault : {T : Type 0} → Result T HistoryFail → Bool
is_git_fault (Err GitFault) = true
is_git_fault _ = false
