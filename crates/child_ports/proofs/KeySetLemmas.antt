-- An ascending list of keys, as the set of them.
use Rattle.std.proofs.Common.{◌≡◌, ℕ, ◌+◌, ◌-◌, ◌<◌, ◌≤◌, inl, inr, Bool, true, false, ◌||◌, List, [], ◌∷◌, length, get_or, refl, sym, ap, ◌∙◌, arith}
use Rattle.std.specs.Prelude.{Result, Ok, Err, is_ok}
use Rattle.std.specs.Cmp.{IsTotalOrder, Equal-is}
use Rattle.std.specs.FinSet.{FinSet, IsAntisymmetric, contains, insert, from_list, len, contains-insert, contains-from_list, contains_tied, same_set, len-empty, len-insert, slice_cmp-IsAntisymmetric, nat_cmp-IsAntisymmetric}
use Rattle.std.specs.List.{list_any}
use Rattle.std.specs.List as list
use Rattle.std.specs.List.Sorted.{IsStrictlySortedBy, IsSortedBy, IsPartitionPoint, IsBinarySearchResult, IsSearchInRange}
use Rattle.std.specs.declared.cmp.Ordering.{Ordering}
use Rattle.std.specs.declared.cmp.Ordering.TheVariants.{Less, Greater}
use Rattle.std.specs.Ordering.{eq_by_cmp, is_eq, is_lt, ordering_reverse}
use Rattle.std.proofs.lemmas.Bool.{cases_lt}
use Rattle.std.proofs.lemmas.Cmp.{nat_list_cmp_total, on_total, tied_back}
use Rattle.std.proofs.lemmas.List.Edits.{length-insert, get_or-insert_below, get_or-insert_at, get_or-insert_above}
use Rattle.std.proofs.lemmas.List.Folds.{list_any_at, list_any_none}
use Rattle.std.proofs.lemmas.List.Sorted.{searchable_from_sorted, IsPermutation-insert, list_any-IsPermutation}
use Rattle.std.proofs.lemmas.Map.Keys.{Less-from_sorted, sorted_from_all_adjacent}
use Rattle.std.proofs.lemmas.Map.Views.{All-after_first}
use Rattle.child_ports.specs.declared.fingerprint.Fingerprint.{Fingerprint}
use Rattle.child_ports.specs.KeySet.{key_cmp}

module _ {K : Type 0} {R : K → K → Ordering} (o : IsTotalOrder R) where
  turned : (x y : K) (r : Ordering) → R x y ≡ r → R y x ≡ ordering_reverse r
  turned x y r e = o.antisymm y x ∙ ap ordering_reverse e

  apart-less : (x y : K) → R y x ≡ Less → eq_by_cmp R x y ≡ false
  apart-less x y e = ap is_eq (turned y x Less e)

  apart-greater : (x y : K) → R y x ≡ Greater → eq_by_cmp R x y ≡ false
  apart-greater x y e = ap is_eq (turned y x Greater e)

  ascending : (ks : List K) → IsStrictlySortedBy R ks → IsSortedBy (λ a b. is_lt (R a b)) ks
  ascending ks s k d low high = ap is_lt (turned _ _ Less (Less-from_sorted R ks k (k + 1) d s (omega arith) high))

  -- a key is absent if the others are below and above it
  absent : (ks : List K) (x : K) (i : ℕ) → IsPartitionPoint (λ y. R y x ≡ Less) (λ y. R y x ≡ Greater) ks i → list_any (eq_by_cmp R x) ks ≡ false
  absent ks x i p = list_any_none (eq_by_cmp R x) ks (λ k d h. elim (cases_lt k i) [
    | inl below ↦ apart-less x _ (p.0 k d (omega arith) below)
    | inr above ↦ apart-greater x _ (p.1 k d above h)
  ])

  -- what a search in an ascending list finds
  abbrev pub Found : List K → K → Result ℕ ℕ → Type 0
  Found ks x (Ok i) = list_any (eq_by_cmp R x) ks ≡ true
  Found ks x (Err i) = (list_any (eq_by_cmp R x) ks ≡ false) × (i ≤ length ks) × IsPartitionPoint (λ y. R y x ≡ Less) (λ y. R y x ≡ Greater) ks i

  pub searched : (ks : List K) (x : K) (r : Result ℕ ℕ) → IsStrictlySortedBy R ks → IsSearchInRange r (length ks) → IsBinarySearchResult (λ y. R y x) ks r → Found ks x r
  searched ks x (Ok i) s below at = list_any_at (eq_by_cmp R x) ks i x below (ap is_eq (tied_back o _ _ (at x)))
  searched ks x (Err i) s below parts =
      let point : IsPartitionPoint (λ y. R y x ≡ Less) (λ y. R y x ≡ Greater) ks i = parts (searchable_from_sorted o (λ y. y) ks x (ascending ks s)) in
      (absent ks x i point, below, point)

  -- two neighbours, where a key was put at its place
  neighbours : (ks : List K) (x : K) (i k : ℕ) → i ≤ length ks → IsPartitionPoint (λ y. R y x ≡ Less) (λ y. R y x ≡ Greater) ks i → IsStrictlySortedBy R ks → k + 1 < length (list.insert ks i x) → R (get_or (list.insert ks i x) k x) (get_or (list.insert ks i x) (k + 1) x) ≡ Less
  neighbours ks x i k within p s h =
      let size : length (list.insert ks i x) ≡ length ks + 1 = length-insert ks i x within in
      elim (cases_lt (k + 1) i) [
        | inl before ↦
            let l : get_or (list.insert ks i x) k x ≡ get_or ks k x = get_or-insert_below ks i x x k (omega arith) within in
            let r : get_or (list.insert ks i x) (k + 1) x ≡ get_or ks (k + 1) x = get_or-insert_below ks i x x (k + 1) before within in
            let e : R (get_or ks k x) (get_or ks (k + 1) x) ≡ Less = Less-from_sorted R ks k (k + 1) x s (omega arith) (omega arith) in
            cc
        | inr from ↦ elim (cases_lt k i) [
          | inl last ↦
              let l : get_or (list.insert ks i x) k x ≡ get_or ks k x = get_or-insert_below ks i x x k last within in
              let n : k + 1 ≡ i = omega arith in
              let r : get_or (list.insert ks i x) (k + 1) x ≡ x = ap (λ m. get_or (list.insert ks i x) m x) n ∙ get_or-insert_at ks i x x within in
              let e : R (get_or ks k x) x ≡ Less = p.0 k x (omega arith) last in
              cc
          | inr up ↦ elim (cases_lt i k) [
            | inl past ↦
                let n : k ≡ (k - 1) + 1 = omega arith in
                let l : get_or (list.insert ks i x) k x ≡ get_or ks (k - 1) x = ap (λ m. get_or (list.insert ks i x) m x) n ∙ get_or-insert_above ks i x x (k - 1) (omega arith) within in
                let r : get_or (list.insert ks i x) (k + 1) x ≡ get_or ks k x = get_or-insert_above ks i x x k up within in
                let e : R (get_or ks (k - 1) x) (get_or ks k x) ≡ Less = Less-from_sorted R ks (k - 1) k x s (omega arith) (omega arith) in
                cc
            | inr here ↦
                let n : k ≡ i = omega arith in
                let l : get_or (list.insert ks i x) k x ≡ x = ap (λ m. get_or (list.insert ks i x) m x) n ∙ get_or-insert_at ks i x x within in
                let r : get_or (list.insert ks i x) (k + 1) x ≡ get_or ks k x = get_or-insert_above ks i x x k up within in
                let e : R x (get_or ks k x) ≡ Less = turned _ _ Greater (p.1 k x up (omega arith)) in
                cc
          ]
        ]
      ]

  pub IsStrictlySortedBy-insert : (ks : List K) (x : K) (i : ℕ) → i ≤ length ks → IsPartitionPoint (λ y. R y x ≡ Less) (λ y. R y x ≡ Greater) ks i → IsStrictlySortedBy R ks → IsStrictlySortedBy R (list.insert ks i x)
  IsStrictlySortedBy-insert ks x i within p s = sorted_from_all_adjacent o (list.insert ks i x) x (λ k h. neighbours ks x i k within p s h)

  pub len-from_list : (ks : List K) → IsStrictlySortedBy R ks → len (from_list {R = R} ks) ≡ length ks
  unfolding IsStrictlySortedBy
  len-from_list [] s = len-empty R
  len-from_list (k ∷ ks) s =
      let none : list_any (eq_by_cmp R k) ks ≡ false = list_any_none (eq_by_cmp R k) ks (λ n d h. ap is_eq (All-after_first R k ks s n d h)) in
      let before : len (from_list {R = R} ks) ≡ length ks = len-from_list ks s.1 in
      len-insert o (from_list ks) k ∙ rw (contains-from_list o ks k, none) (omega (arith, before))

  module _ (same : IsAntisymmetric R) where
    pub from_list-insert : (ks : List K) (i : ℕ) (x : K) → from_list {R = R} (list.insert ks i x) ≡ insert (from_list ks) x
    from_list-insert ks i x = same_set o same _ _ (λ q.
        contains-from_list o (list.insert ks i x) q
        ∙ sym (list_any-IsPermutation (eq_by_cmp R q) _ _ (IsPermutation-insert ks i x))
        ∙ sym (contains-insert o (from_list ks) x q ∙ ap (λ b. eq_by_cmp R q x || b) (contains-from_list o ks q)))

    or_there : (s : FinSet R) (x q : K) (b : Bool) → contains s x ≡ true → eq_by_cmp R q x ≡ b → (b || contains s q) ≡ contains s q
    or_there s x q true is e = sym is ∙ contains_tied o s q x ((Equal-is (R q x)).0 e)
    or_there s x q false is e = refl

    insert_present : (s : FinSet R) (x : K) → contains s x ≡ true → insert s x ≡ s
    insert_present s x is = same_set o same _ _ (λ q. contains-insert o s x q ∙ or_there s x q (eq_by_cmp R q x) is refl)

    pub insert_found : (ks : List K) (x : K) (i : ℕ) → Found ks x (Ok i) → from_list {R = R} ks ≡ insert (from_list ks) x
    insert_found ks x i found = sym (insert_present (from_list ks) x (contains-from_list o ks x ∙ found))

  pub contains_found : (ks : List K) (x : K) (r : Result ℕ ℕ) → Found ks x r → is_ok r ≡ contains (from_list {R = R} ks) x
  contains_found ks x (Ok i) found = sym (contains-from_list o ks x ∙ found)
  contains_found ks x (Err i) found = sym (contains-from_list o ks x ∙ found.0)

pub key_cmp_total : IsTotalOrder key_cmp
key_cmp_total = on_total (λ (key : Fingerprint). key.0) nat_list_cmp_total

pub key_cmp-IsAntisymmetric : IsAntisymmetric key_cmp
key_cmp-IsAntisymmetric x y e = ap (λ (bytes : List ℕ). record { 0 = bytes }) (slice_cmp-IsAntisymmetric nat_cmp-IsAntisymmetric x.0 y.0 e)
