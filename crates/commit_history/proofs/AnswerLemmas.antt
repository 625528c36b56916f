-- What was read and ranked is the answer.
use Rattle.std.specs.FinMap as fin
use Rattle.std.specs.Prelude.{IfOk}
use Rattle.std.proofs.Common.{ℕ, ◌≤◌, List, Option, None, Some, Result, Ok, Err, refl, sym, ap, subst, is_some}
use Rattle.child_ports.specs.declared.git.GitRow.{GitRow}
use Rattle.child_ports.specs.declared.sig.SigRow.{SigRow}
use Rattle.commit_graph.specs.declared.fail.GraphFail.{GraphFail}
use Rattle.commit_graph.specs.declared.fail.GraphFail.TheVariants as fails
use Rattle.commit_graph.specs.Fail.{RankFails}
use Rattle.commit_graph.specs.History as commits
use Rattle.commit_graph.specs.History.{Commits, History, Name, IsParent}
use Rattle.auth_rules.specs.World.{World, world_of}
use Rattle.commit_history.specs.declared.fail.HistoryFail.{HistoryFail}
use Rattle.commit_history.specs.declared.fail.HistoryFail.TheVariants.{TooMany, Object, Cycle, GitFault, Memory}
use Rattle.commit_history.specs.declared.walk.Unread.{Unread}
use Rattle.commit_history.specs.Answers.{HoldsHistory, IsHistoryAnswer, IsUsable}
use Rattle.commit_history.specs.Members.{AtMost, IsMember}
use Rattle.commit_history.specs.Walk.{IsRead, IsRankFail, RankAnswers}
use Rattle.commit_history.proofs.CarryLemmas.{generation_there, generation_back}
use Rattle.commit_history.proofs.CountLemmas.{at_most}

module _ (w : World) (target intro : Name) (held : Commits) where
  few : (unread : Option Unread) → IsRead w target intro held unread → AtMost 1000000 (IsMember w target intro)
  few unread read = at_most held 1000000 (IsMember w target intro) read.few (λ c member. (read.members c).1 member)

  pub object_answer : (unread : Unread) → IsRead w target intro held (Some unread) → IsHistoryAnswer w target intro (Err (Object unread.id unread.what))
  object_answer unread read = (
    few (Some unread) read,
    record {
      is = ((read.members unread.id).0 read.least.0.is.0, read.least.0.is.1);
      least = λ other h. read.least.0.least other ((read.members other).1 h.0, h.1);
    },
    read.least.1,
  )

  module _ (read : IsRead w target intro held None) (whole : commits.IsWhole held) where
    pub ranked_answer : (result : Result History HistoryFail) → RankAnswers held result → IsHistoryAnswer w target intro result
    ranked_answer (Ok graph) h = (
      record {
        few = few None read;
        sound = λ c member. read.least c ((read.members c).1 member);
        ranked = λ c member.
            let holds = (read.members c).1 member in
            let generation = h.1 c holds in
            (generation.0, generation_there w held read.lists whole c generation.0 holds generation.1);
      },
      subst (HoldsHistory w target intro) (sym h.0) (record { members = read.members; lists = read.lists; ranked = refl }),
    )
    ranked_answer (Err TooMany) h = absurd h
    ranked_answer (Err (Object id what)) h = absurd h
    ranked_answer (Err (Cycle id)) h = (
      few None read,
      λ c member. read.least c ((read.members c).1 member),
      record {
        is = ((read.members id).0 h.is.holds, λ n generation. h.is.endless n (generation_back w held read.lists whole id n h.is.holds generation));
        least = λ other endless.
            let holds = (read.members other).1 endless.0 in
            h.least other (record { holds = holds; endless = λ n generation. endless.1 n (generation_there w held read.lists whole other n holds generation) });
      },
    )
    ranked_answer (Err GitFault) h = absurd h
    ranked_answer (Err Memory) h = tt

-- gpgv's verdicts don't matter
pub any_verdicts : (rows : List GitRow) (dir : List ℕ) (sigs others : List SigRow) (keyring other : List ℕ) (target intro : Name) (result : Result History HistoryFail)
    → IsHistoryAnswer (world_of rows dir sigs keyring) target intro result → IsHistoryAnswer (world_of rows dir others other) target intro result
any_verdicts rows dir sigs others keyring other target intro (Ok graph) h = (
  record { few = h.0.few; sound = h.0.sound; ranked = h.0.ranked },
  record { members = h.1.members; lists = h.1.lists; ranked = h.1.ranked },
)
any_verdicts rows dir sigs others keyring other target intro (Err TooMany) h = h
any_verdicts rows dir sigs others keyring other target intro (Err (Object id what)) h = h
any_verdicts rows dir sigs others keyring other target intro (Err (Cycle id)) h = h
any_verdicts rows dir sigs others keyring other target intro (Err GitFault) h = tt
any_verdicts rows dir sigs others keyring other target intro (Err Memory) h = tt

-- a whole graph isn't ranked only where a commit has no generation, or for want of memory
pub only_cycles : (held : Commits) (fail : GraphFail) → commits.IsWhole held → RankFails held fail → IsRankFail fail
only_cycles held fails.Present whole h = h
only_cycles held fails.Full whole h = h
only_cycles held (fails.Open id) whole h = let missing = h.is in let there = whole missing.child id missing.parent in let gone = ap is_some missing.absent in cc
only_cycles held (fails.Cycle id) whole h = tt
only_cycles held fails.Memory whole h = tt

-- a graph that was ranked can be asked
pub usable_answer : (target intro : Name) (held : Commits) (result : Result History HistoryFail) → commits.IsWhole held → fin.len held ≤ 1000000
    → commits.Holds held target × commits.Holds held intro → RankAnswers held result → IfOk result (IsUsable target intro)
usable_answer target intro held (Ok graph) whole few both ranks = subst (IsUsable target intro) (sym ranks.0) (record {
  ranked = refl;
  holds_target = both.0;
  holds_intro = both.1;
  whole = whole;
  few = at_most held 1000000 (commits.Holds held) few (λ c is. is);
  acyclic = ranks.1;
})
usable_answer target intro held (Err fail) whole few both ranks = tt
