-- What isn't covered, in a graph that can be asked.
use Rattle.std.proofs.Common.{◌≡◌, ◌≢◌, inl, inr, ◌≤◌, List, length, sym, ap, ◌∙◌, subst, arith}
use Rattle.std.specs.Prelude.{All, AllPairs, Contains}
use Rattle.std.specs.Cmp.Lexicographic.{nat_list_cmp_total}
use Rattle.std.specs.declared.cmp.Ordering.TheVariants.{Less}
use Rattle.std.proofs.lemmas.Cmp.{tied_itself}
use Rattle.commit_graph.specs.Chains.{Reaches, IsGeneration}
use Rattle.commit_graph.specs.Covers.{Parenthood, ComesBefore, AreUncovered}
use Rattle.commit_graph.specs.History.{Commits, Holds, IsParent, IsWhole, name_cmp}
use Rattle.commit_graph.proofs.ChainLemmas.{reach_all}
use Rattle.auth_rules.specs.World.{Id}
use Rattle.auth_rules.specs.Answers.{HoldsFamily}
use Rattle.auth_rules.proofs.CauseLemmas.{whole_family}
use Rattle.commit_history.specs.Members.{AtMost}
use Rattle.auth_engine.proofs.DistinctLemmas.{length-le_distinct}

-- what comes before another is another
pub different : (P : Parenthood) (a b : Id) → ComesBefore P a b → a ≢ b
different P a b before is = elim before.before [
  | inl less ↦
      let other : IsGeneration P a before.second = subst (λ (c : Id). IsGeneration P c before.second) (sym is) before.second_is in
      let most = before.first_is.greatest other.rest other.chain in
      absurd (omega (arith, less, most, other.count))
  | inr less ↦
      let itself : name_cmp a a ≡ Less = ap (name_cmp a) is ∙ less.1 in
      let tied = tied_itself nat_list_cmp_total a in
      cc
]

module _ (held : Commits) (whole : IsWhole held) where
  reached_held : (a b : Id) → Holds held a → Reaches (IsParent held) a b → Holds held b
  reached_held a b holds r = reach_all (Holds held) (λ c p h parent. whole c p parent) holds r

  pub families : (target intro : Id) (entries commits : List Id) → Holds held target → AreUncovered (IsParent held) target intro entries commits → All (HoldsFamily held) commits
  families target intro entries commits holds new = λ k d low. whole_family held _ (reached_held target _ holds (new.reached k d low)) whole

  pub few_new : (target intro : Id) (entries commits : List Id) → Holds held target → AtMost 1000000 (Holds held) → AreUncovered (IsParent held) target intro entries commits → length commits ≤ 1000000
  few_new target intro entries commits holds few new =
      let pairs : AllPairs ◌≢◌ commits = λ i j d lt low. different (IsParent held) _ _ (new.order i j d lt low) in
      let all : All (Contains few.ids) commits = λ k d low. few.complete _ (reached_held target _ holds (new.reached k d low)) in
      omega (arith, few.few, length-le_distinct commits few.ids pairs all)
