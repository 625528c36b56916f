-- The answers in small worlds, worked out.
use Rattle.std.proofs.Common.{◌≡◌, ◌≤◌, false, List, [], ◌∷◌, length, Err, refl, arith, Contains, inl, inr}
use Rattle.std.specs.Prelude.{IsErr}
use Rattle.std.specs.Ordering.{is_gt}
use Rattle.std.specs.List.{AllByRecursion}
use Rattle.std.proofs.lemmas.List.Elements.{All-contains, All-from_recursion}
use Rattle.commit_graph.specs.Chains.{IsChain, HasNoGeneration}
use Rattle.commit_graph.specs.History.{Name, name_cmp}
use Rattle.commit_graph.proofs.ChainLemmas.{reach_itself, reach_parent, reach_all}
use Rattle.commit_graph.proofs.EndlessLemmas.{cycle_endless, endless_none}
use Rattle.auth_rules.specs.World.{World}
use Rattle.auth_rules.specs.Rules.{parents_of}
use Rattle.auth_rules.specs.declared.cause.What.TheVariants.{Missing}
use Rattle.auth_rules.proofs.Tiny.{tiny, tiny_id, without_file}
use Rattle.commit_history.specs.declared.fail.HistoryFail.TheVariants.{Object, Cycle}
use Rattle.commit_history.specs.Answers.{IsHistoryAnswer}
use Rattle.commit_history.specs.Members.{AtMost, history, IsMember, IsSound}

-- ---- members by a list that has the parents of what it has

module _ (w : World) (target intro : Name) (ids : List Name) where
  abbrev IsClosed : Type 0
  IsClosed = AllByRecursion (λ c. AllByRecursion (Contains ids) (parents_of w c)) ids

  module _ (has_target : Contains ids target) (has_intro : Contains ids intro) (closed : IsClosed) where
    step : (c p : Name) → Contains ids c → history w c p → Contains ids p
    step c p at parent =
        let parents = All-contains (λ x. AllByRecursion (Contains ids) (parents_of w x)) ids c (All-from_recursion (λ x. AllByRecursion (Contains ids) (parents_of w x)) ids closed) at in
        All-contains (Contains ids) (parents_of w c) p (All-from_recursion (Contains ids) (parents_of w c) parents) parent

    listed : (c : Name) → IsMember w target intro c → Contains ids c
    listed c (inl r) = reach_all (Contains ids) step has_target r
    listed c (inr r) = reach_all (Contains ids) step has_intro r

    at_most : length ids ≤ 1000000 → AtMost 1000000 (IsMember w target intro)
    at_most few = record { ids = ids; few = few; complete = listed }

    -- what holds of each of the list holds of each member
    of_members : (P : Name → Type 0) → AllByRecursion P ids → (c : Name) → IsMember w target intro c → P c
    of_members P all c member = All-contains P ids c (All-from_recursion P ids all) (listed c member)

-- ---- a cycle

-- 2 and 3 are parents of each other, and 4 has the parent 3; 1 is a root
abbrev cycle : World
cycle = tiny (without_file 1 [] 1 ∷ without_file 2 (3 ∷ []) 1 ∷ without_file 3 (2 ∷ []) 1 ∷ without_file 4 (3 ∷ []) 1 ∷ [])

abbrev cycle_ids : List Name
cycle_ids = tiny_id 1 ∷ tiny_id 2 ∷ tiny_id 3 ∷ tiny_id 4 ∷ []

cycle_closed : IsClosed cycle (tiny_id 4) (tiny_id 1) cycle_ids
cycle_closed = (tt, (((2, omega arith, refl), tt), (((1, omega arith, refl), tt), (((2, omega arith, refl), tt), tt))))

root_has_generation : HasNoGeneration (history cycle) (tiny_id 1) → ⊥
root_has_generation none = none 1 (record { rest = []; chain = tt; count = refl; greatest = longest })
  where
    longest : (others : List Name) → IsChain (history cycle) (tiny_id 1) others → length (tiny_id 1 ∷ others) ≤ 1
    longest [] h = omega arith
    longest (p ∷ others) h = absurd (no_parent p h.0)
      where
        no_parent : (p : Name) → history cycle (tiny_id 1) p → ⊥
        no_parent p (k, low, e) = omega arith

two_is_a_member : IsMember cycle (tiny_id 4) (tiny_id 1) (tiny_id 2)
two_is_a_member = inl (reach_parent (tiny_id 2) (reach_parent (tiny_id 3) (reach_itself (tiny_id 4)) (0, omega arith, refl)) (0, omega arith, refl))

two_is_endless : HasNoGeneration (history cycle) (tiny_id 2)
two_is_endless = endless_none (history cycle) (tiny_id 2) (cycle_endless (history cycle) (tiny_id 2) (tiny_id 3) (reach_parent (tiny_id 3) (reach_itself (tiny_id 2)) (0, omega arith, refl)) (0, omega arith, refl))

the_least_on_the_cycle_is_named : IsHistoryAnswer cycle (tiny_id 4) (tiny_id 1) (Err (Cycle (tiny_id 2)))
the_least_on_the_cycle_is_named = (
  at_most cycle (tiny_id 4) (tiny_id 1) cycle_ids (3, omega arith, refl) (0, omega arith, refl) cycle_closed (omega arith),
  of_members cycle (tiny_id 4) (tiny_id 1) cycle_ids (3, omega arith, refl) (0, omega arith, refl) cycle_closed (IsSound cycle) (refl, (refl, (refl, (refl, tt)))),
  record {
    is = (two_is_a_member, two_is_endless);
    least = λ other h. of_members cycle (tiny_id 4) (tiny_id 1) cycle_ids (3, omega arith, refl) (0, omega arith, refl) cycle_closed
        (λ c. HasNoGeneration (history cycle) c → is_gt (name_cmp (tiny_id 2) c) ≡ false)
        ((λ none. absurd (root_has_generation none)), ((λ _. refl), ((λ _. refl), ((λ _. refl), tt)))) other h.0 h.1;
  },
)

-- ---- commits that aren't there

-- the parents 5 and 4 of 2 are missing; 1 is a root beside it
abbrev gaps : World
gaps = tiny (without_file 1 [] 1 ∷ without_file 2 (5 ∷ 4 ∷ []) 1 ∷ [])

abbrev gaps_ids : List Name
gaps_ids = tiny_id 1 ∷ tiny_id 2 ∷ tiny_id 4 ∷ tiny_id 5 ∷ []

gaps_closed : IsClosed gaps (tiny_id 2) (tiny_id 1) gaps_ids
gaps_closed = (tt, (((3, omega arith, refl), ((2, omega arith, refl), tt)), (tt, (tt, tt))))

the_least_missing_is_named : IsHistoryAnswer gaps (tiny_id 2) (tiny_id 1) (Err (Object (tiny_id 4) Missing))
the_least_missing_is_named = (
  at_most gaps (tiny_id 2) (tiny_id 1) gaps_ids (1, omega arith, refl) (0, omega arith, refl) gaps_closed (omega arith),
  record {
    is = (inl (reach_parent (tiny_id 4) (reach_itself (tiny_id 2)) (1, omega arith, refl)), refl);
    least = λ other h. of_members gaps (tiny_id 2) (tiny_id 1) gaps_ids (1, omega arith, refl) (0, omega arith, refl) gaps_closed
        (λ c. IsErr (gaps.commit c) → is_gt (name_cmp (tiny_id 4) c) ≡ false)
        ((λ e. cc), ((λ e. cc), ((λ _. refl), ((λ _. refl), tt)))) other h.0 h.1;
  },
  refl,
)
