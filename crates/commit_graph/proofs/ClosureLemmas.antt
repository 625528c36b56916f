-- A walk ends with what its roots reach.
use Rattle.std.proofs.Common.{◌≡◌, ◌↔◌, ℕ, ◌+◌, ◌<◌, ◌≤◌, true, List, [], length, sym, ap, ◌∙◌, subst, arith, All, ◌⊎◌, inl, inr, ⊎_elim, length-append}
use Rattle.std.specs.List.{IsDistinct, slice_index_or}
use Rattle.std.specs.Bool.{IsTrue}
use Rattle.std.specs.Cmp.Lexicographic.{nat_list_cmp_total}
use Rattle.std.specs.FinMap as fin
use Rattle.std.specs.FinSet as set
use Rattle.std.proofs.lemmas.Bool.{cases_eq}
use Rattle.std.proofs.lemmas.List.{get_or_append_left, get_or_default, length-map}
use Rattle.std.proofs.lemmas.Map.Made.{length-le_from_is_member}
use Rattle.commit_graph.specs.History.{Commits, Name, name_cmp, IsParent, IsWhole, IsReachedFrom, Holds}
use Rattle.commit_graph.specs.Walk.{is_in, parents_in, IsWalk}
use Rattle.commit_graph.proofs.OrderLemmas.{names_equiv}
use Rattle.commit_graph.proofs.ChainLemmas.{reach_itself, reach_parent, reach_all}
use Rattle.commit_graph.proofs.WalkLemmas.{Adds, either, left_of, right_of, is_in-place, is_in-contains, parent_of, of_parent}

-- at the start the roots are there
pub walk_start : (h : Commits) (roots new : List Name) → All (Holds h) roots → Adds [] roots new → IsWalk h roots new 0
unfolding IsDistinct
walk_start h roots new held adds = record {
  low = omega arith;
  distinct = adds.distinct tt;
  sound = λ q t. let at = is_in-place roots q (sym (adds.members q) ∙ t) in record { from = q; listed = at; reaches = reach_itself q };
  held = λ q t. let at = is_in-place roots q (sym (adds.members q) ∙ t) in subst (Holds h) at.2 (held at.0 q at.1);
  rooted = λ q t. adds.members q ∙ t;
  closed = λ k d p low t. absurd (omega arith);
}

pub at_or_below : (k i : ℕ) → k < i + 1 → (k < i) ⊎ (k ≡ i)
at_or_below k i h = ⊎_elim (λ e. inr e) (λ ne. inl (omega arith)) (cases_eq k i)

-- the id at a place is in the list
pub at_place : (ids : List Name) (k : ℕ) (d : Name) → k < length ids → is_in ids (slice_index_or ids k d) ≡ true
at_place ids k d low = is_in-contains ids (slice_index_or ids k d) (k, low, get_or_default ids k (slice_index_or ids k d) d low)

-- one commit's parents are there too
pub walk_step : (h : Commits) (roots order new : List Name) (i : ℕ) (id : Name) → IsWhole h → IsWalk h roots order i → i < length order → slice_index_or order i id ≡ id → Adds order (parents_in h id) new → IsWalk h roots new (i + 1)
walk_step h roots order new i id whole walk low at adds =
    let here : is_in order id ≡ true = ap (is_in order) (sym at) ∙ at_place order i id low in
    let size : length new ≡ length order + length adds.rest = ap length adds.grown ∙ length-append order adds.rest in
    record {
      low = omega arith;
      distinct = adds.distinct walk.distinct;
      sound = λ q t. elim (either (is_in order q) (is_in (parents_in h id) q) (sym (adds.members q) ∙ t)) [
        | inl old ↦ walk.sound q old
        | inr new ↦ let by = walk.sound id here in record { from = by.from; listed = by.listed; reaches = reach_parent q by.reaches (parent_of h id q new) }
      ];
      held = λ q t. elim (either (is_in order q) (is_in (parents_in h id) q) (sym (adds.members q) ∙ t)) [
        | inl old ↦ walk.held q old
        | inr new ↦ whole id q (parent_of h id q new)
      ];
      rooted = λ q t. adds.members q ∙ left_of (is_in order q) (is_in (parents_in h id) q) (walk.rooted q t);
      closed = λ k d p below t. closed_at k d p below t;
    }
  where
    closed_at : (k : ℕ) (d p : Name) → k < i + 1 → is_in (parents_in h (slice_index_or new k d)) p ≡ true → is_in new p ≡ true
    closed_at k d p below t =
        let kept : slice_index_or new k d ≡ slice_index_or order k d = ap (λ xs. slice_index_or xs k d) adds.grown ∙ get_or_append_left order adds.rest d k (omega arith) in
        let old : is_in (parents_in h (slice_index_or order k d)) p ≡ true = ap (λ x. is_in (parents_in h x) p) (sym kept) ∙ t in
        elim (at_or_below k i below) [
          | inl less ↦ adds.members p ∙ left_of (is_in order p) (is_in (parents_in h id) p) (walk.closed k d p less old)
          | inr same ↦ adds.members p ∙ right_of (is_in order p) (is_in (parents_in h id) p) (ap (λ x. is_in (parents_in h x) p) (sym (ap (λ j. slice_index_or order j d) same ∙ get_or_default order i d id low ∙ at)) ∙ old)
        ]

-- all is there that the roots reach
pub walk_all : (h : Commits) (roots order : List Name) (i : ℕ) → IsWalk h roots order i → length order ≤ i → (q : Name) → IsReachedFrom h roots q → is_in order q ≡ true
walk_all h roots order i walk done q reached = reach_all (λ x. is_in order x ≡ true) step (walk.rooted reached.from (is_in-contains roots reached.from reached.listed)) reached.reaches
  where
    step : (c p : Name) → is_in order c ≡ true → IsParent h c p → is_in order p ≡ true
    step c p t parent =
        let at = is_in-place order c t in
        walk.closed at.0 c p (omega (arith, at.1)) (ap (λ x. is_in (parents_in h x) p) at.2 ∙ of_parent h c p parent)

-- at the end all is there that the roots reach, and nothing else
pub walk_end : (h : Commits) (roots order : List Name) (i : ℕ) → IsWalk h roots order i → length order ≤ i → (q : Name) → IsTrue (set.contains (set.from_list {R = name_cmp} order) q) ↔ IsReachedFrom h roots q
walk_end h roots order i walk done q = (
  λ t. walk.sound q (sym (set.contains-from_list nat_list_cmp_total order q) ∙ t),
  λ reached. set.contains-from_list nat_list_cmp_total order q ∙ walk_all h roots order i walk done q reached,
)

-- no more are there than are held
pub walk_few : (h : Commits) (roots order : List Name) (i : ℕ) → IsWalk h roots order i → length order ≤ fin.len h
walk_few h roots order i walk =
    let few : length order ≤ length (fin.keys h) = length-le_from_is_member names_equiv order (fin.keys h) walk.distinct (λ q t. sym (fin.contains_key-keys h q) ∙ walk.held q t) in
    let size : length (fin.keys h) ≡ fin.len h = length-map (fin.entries h) (λ e. e.0) ∙ sym (fin.len-entries h) in
    omega arith
