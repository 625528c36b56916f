-- Ascending keys, and sets of them.
use Rattle.std.proofs.Common.{◌≡◌, ℕ, ◌+◌, ◌-◌, ◌<◌, inl, inr, Bool, true, false, ◌||◌, List, [], ◌∷◌, ◌++◌, length, get_or, refl, sym, ap, ◌∙◌, subst, arith}
use Rattle.std.specs.BTreeSet.{insert_key}
use Rattle.std.specs.Cmp.{IsTotalOrder}
use Rattle.std.specs.FinSet.{IsAntisymmetric, contains, from_list, items, contains-items, contains-from_list, same_set}
use Rattle.std.specs.List.{AllByRecursion, list_any}
use Rattle.std.specs.List.Sorted.{IsStrictlySortedBy}
use Rattle.std.specs.declared.cmp.Ordering.{Ordering}
use Rattle.std.specs.declared.cmp.Ordering.TheVariants.{Less, Equal, Greater}
use Rattle.std.specs.Ordering.{eq_by_cmp, is_eq, is_lt, match_ordering, ordering_reverse}
use Rattle.std.proofs.lemmas.Bool.{false≢true, cases_lt}
use Rattle.std.proofs.lemmas.List.{length_push, get_or_append_left}
use Rattle.std.proofs.lemmas.Option.{slice_get-get_or}
use Rattle.std.proofs.lemmas.Cmp.{tied_itself}
use Rattle.std.proofs.lemmas.Map.Keys.{Less-from_sorted, sorted_from_all_adjacent}
use Rattle.child_ports.specs.declared.fingerprint.Fingerprint.{Fingerprint}
use Rattle.child_ports.specs.KeySet.{Keys, key_cmp}
use Rattle.child_ports.proofs.KeySetLemmas.{key_cmp_total, key_cmp-IsAntisymmetric}
use Rattle.auth_cache.specs.Keys.{put_all, ascending}
use Rattle.auth_cache.specs.Reading.{above, is_above}

or_swap : (a b c : Bool) → (a || (b || c)) ≡ (b || (a || c))
or_swap true true c = refl
or_swap true false c = refl
or_swap false b c = refl

or_twice : (a c : Bool) → (a || c) ≡ (a || (a || c))
or_twice true c = refl
or_twice false c = refl

module _ {K : Type 0} {R : K → K → Ordering} (o : IsTotalOrder R) where
  abbrev has : List K → K → Bool
  has ks q = list_any (eq_by_cmp R q) ks

  -- each is above the key
  abbrev Below : K → List K → Type 0
  Below x ks = AllByRecursion (λ y. R x y ≡ Less) ks

  below_all : (x y : K) (ks : List K) → R x y ≡ Less → Below y ks → Below x ks
  below_all x y [] lt h = tt
  below_all x y (k ∷ ks) lt h = (o.trans x y k lt h.0, below_all x y ks lt h.1)

  lacks : (q x : K) (ks : List K) → R q x ≡ Equal → Below x ks → has ks q ≡ false
  lacks q x [] tie h = refl
  lacks q x (k ∷ ks) tie h = ap (λ r. is_eq r || has ks q) (o.congr q x k tie ∙ h.0) ∙ lacks q x ks tie h.1

  has_first : (x : K) (ks : List K) → has (x ∷ ks) x ≡ true
  has_first x ks = ap (λ r. is_eq r || has ks x) (tied_itself o x)

  below_Less : (x y : K) (ks : List K) → R x y ≡ Less → Below y ks → has (y ∷ ks) x ≡ false
  below_Less x y ks lt h = lacks x x (y ∷ ks) (tied_itself o x) (lt, below_all x y ks lt h)

  -- the keys behind a first one that both have
  rest_alike : (x q : K) (xs ys : List K) → Below x xs → Below x ys → has (x ∷ xs) q ≡ has (x ∷ ys) q → has xs q ≡ has ys q
  rest_alike x q xs ys bx by_ h = elim (R q x) as (λ r. R q x ≡ r → (is_eq r || has xs q) ≡ (is_eq r || has ys q) → has xs q ≡ has ys q) [
    | Less ↦ λ e alike. alike
    | Equal ↦ λ e alike. lacks q x xs e bx ∙ sym (lacks q x ys e by_)
    | Greater ↦ λ e alike. alike
  ] refl h

  -- ascending lists of the same keys are the same
  pub sorted_same : IsAntisymmetric R → (xs ys : List K) → IsStrictlySortedBy R xs → IsStrictlySortedBy R ys → ((q : K) → has xs q ≡ has ys q) → xs ≡ ys
  unfolding IsStrictlySortedBy
  sorted_same same [] [] sx sy h = refl
  sorted_same same [] (y ∷ ys) sx sy h = absurd (false≢true (h y ∙ has_first y ys))
  sorted_same same (x ∷ xs) [] sx sy h = absurd (false≢true (sym (h x) ∙ has_first x xs))
  sorted_same same (x ∷ xs) (y ∷ ys) sx sy h = elim (R x y) as (λ r. R x y ≡ r → x ∷ xs ≡ y ∷ ys) [
    | Less ↦ λ e. absurd (false≢true (sym (below_Less x y ys e sy.0) ∙ sym (h x) ∙ has_first x xs))
    | Equal ↦ λ e.
        let eq : x ≡ y = same x y e in
        let by_ : Below x ys = subst (λ (k : K). Below k ys) (sym eq) sy.0 in
        let alike : (q : K) → has (x ∷ xs) q ≡ has (x ∷ ys) q = λ q. h q ∙ ap (λ (k : K). has (k ∷ ys) q) (sym eq) in
        ap (λ k. k ∷ xs) eq ∙ ap (λ ks. y ∷ ks) (sorted_same same xs ys sx.1 sy.1 (λ q. rest_alike x q xs ys sx.0 by_ (alike q)))
    | Greater ↦ λ e.
        let less : R y x ≡ Less = o.antisymm y x ∙ ap ordering_reverse e in
        absurd (false≢true (sym (below_Less y x xs less sx.0) ∙ h y ∙ has_first y ys))
  ] refl

  -- ---- a key at its place

  below_insert : (x k : K) (ks : List K) → R x k ≡ Less → Below x ks → Below x (insert_key R ks k)
  below_insert x k [] lt h = (lt, tt)
  below_insert x k (y ∷ ks) lt h = elim (R k y) as (λ r. Below x (match_ordering r (k ∷ y ∷ ks) (y ∷ ks) (y ∷ insert_key R ks k))) [
    | Less ↦ (lt, h)
    | Equal ↦ h
    | Greater ↦ (h.0, below_insert x k ks lt h.1)
  ]

  pub sorted_insert : (k : K) (ks : List K) → IsStrictlySortedBy R ks → IsStrictlySortedBy R (insert_key R ks k)
  unfolding IsStrictlySortedBy
  sorted_insert k [] s = (tt, tt)
  sorted_insert k (y ∷ ks) s = elim (R k y) as (λ r. R k y ≡ r → IsStrictlySortedBy R (match_ordering r (k ∷ y ∷ ks) (y ∷ ks) (y ∷ insert_key R ks k))) [
    | Less ↦ λ e. ((e, below_all k y ks e s.0), s)
    | Equal ↦ λ e. s
    | Greater ↦ λ e. (below_insert y k ks (o.antisymm y k ∙ ap ordering_reverse e) s.0, sorted_insert k ks s.1)
  ] refl

  pub has_insert : (q k : K) (ks : List K) → has (insert_key R ks k) q ≡ (eq_by_cmp R q k || has ks q)
  has_insert q k [] = refl
  has_insert q k (y ∷ ks) = elim (R k y) as (λ r. R k y ≡ r → has (match_ordering r (k ∷ y ∷ ks) (y ∷ ks) (y ∷ insert_key R ks k)) q ≡ (eq_by_cmp R q k || (eq_by_cmp R q y || has ks q))) [
    | Less ↦ λ e. refl
    | Equal ↦ λ e. or_twice (eq_by_cmp R q y) (has ks q) ∙ ap (λ r. is_eq r || (eq_by_cmp R q y || has ks q)) (right q y k e)
    | Greater ↦ λ e. ap (λ b. eq_by_cmp R q y || b) (has_insert q k ks) ∙ or_swap (eq_by_cmp R q y) (eq_by_cmp R q k) (has ks q)
  ] refl
    where
      right : (q y k : K) → R k y ≡ Equal → R q y ≡ R q k
      right q y k e = o.antisymm q y ∙ ap ordering_reverse (sym (o.congr k y q e)) ∙ sym (o.antisymm q k)

-- ---- the keys of a set

put_sorted : (ks : List Fingerprint) → IsStrictlySortedBy key_cmp (put_all ks)
unfolding IsStrictlySortedBy
put_sorted [] = tt
put_sorted (k ∷ ks) = sorted_insert key_cmp_total k (put_all ks) (put_sorted ks)

put_has : (q : Fingerprint) (ks : List Fingerprint) → list_any (eq_by_cmp key_cmp q) (put_all ks) ≡ list_any (eq_by_cmp key_cmp q) ks
put_has q [] = refl
put_has q (k ∷ ks) = has_insert key_cmp_total q k (put_all ks) ∙ ap (λ b. eq_by_cmp key_cmp q k || b) (put_has q ks)

pub ascending_sorted : (keys : Keys) → IsStrictlySortedBy key_cmp (ascending keys)
unfolding ascending
ascending_sorted keys = put_sorted (items keys)

ascending_has : (keys : Keys) (q : Fingerprint) → list_any (eq_by_cmp key_cmp q) (ascending keys) ≡ contains keys q
unfolding ascending
ascending_has keys q = put_has q (items keys) ∙ sym (contains-items keys q)

pub ascending_from_list : (ks : List Fingerprint) → IsStrictlySortedBy key_cmp ks → ascending (from_list ks) ≡ ks
ascending_from_list ks s = sorted_same key_cmp_total key_cmp-IsAntisymmetric _ ks (ascending_sorted (from_list ks)) s (λ q. ascending_has (from_list ks) q ∙ contains-from_list key_cmp_total ks q)

pub from_list_ascending : (keys : Keys) → from_list (ascending keys) ≡ keys
from_list_ascending keys = same_set key_cmp_total key_cmp-IsAntisymmetric _ keys (λ q. contains-from_list key_cmp_total (ascending keys) q ∙ ascending_has keys q)

-- ---- a key behind others

less_is : (r : Ordering) → is_lt r ≡ true → r ≡ Less
less_is Less e = refl
less_is Equal e = absurd (false≢true e)
less_is Greater e = absurd (false≢true e)

above_last : (keys : List Fingerprint) (key : Fingerprint) → is_above keys key ≡ true → 0 < length keys → key_cmp (get_or keys (length keys - 1) key) key ≡ Less
above_last keys key e some = less_is _ (sym (ap (λ o. above o key) (slice_get-get_or keys (length keys - 1) key (omega arith))) ∙ e)

neighbours : (keys : List Fingerprint) (key : Fingerprint) → IsStrictlySortedBy key_cmp keys → is_above keys key ≡ true → (k : ℕ) → k + 1 < length (keys ++ key ∷ [])
    → key_cmp (get_or (keys ++ key ∷ []) k key) (get_or (keys ++ key ∷ []) (k + 1) key) ≡ Less
neighbours keys key s e k lt =
    let size : k + 1 < length keys + 1 = subst (λ (n : ℕ). k + 1 < n) (length_push keys key) lt in
    let here : get_or (keys ++ key ∷ []) k key ≡ get_or keys k key = get_or_append_left keys (key ∷ []) key k (omega arith) in
    elim (cases_lt (k + 1) (length keys)) [
      | inl inside ↦
          let next : get_or (keys ++ key ∷ []) (k + 1) key ≡ get_or keys (k + 1) key = get_or_append_left keys (key ∷ []) key (k + 1) inside in
          let less : key_cmp (get_or keys k key) (get_or keys (k + 1) key) ≡ Less = Less-from_sorted key_cmp keys k (k + 1) key s (omega arith) inside in
          cc
      | inr last ↦
          let place : k + 1 ≡ length keys = omega arith in
          let next : get_or (keys ++ key ∷ []) (k + 1) key ≡ key = ap (λ n. get_or (keys ++ key ∷ []) n key) place ∙ get_or_last keys key in
          let before : k ≡ length keys - 1 = omega arith in
          let less : key_cmp (get_or keys k key) key ≡ Less = ap (λ n. key_cmp (get_or keys n key) key) before ∙ above_last keys key e (omega arith) in
          cc
    ]
  where
    get_or_last : (keys : List Fingerprint) (key : Fingerprint) → get_or (keys ++ key ∷ []) (length keys) key ≡ key
    get_or_last [] key = refl
    get_or_last (k ∷ keys) key = get_or_last keys key

pub sorted_push : (keys : List Fingerprint) (key : Fingerprint) → IsStrictlySortedBy key_cmp keys → is_above keys key ≡ true → IsStrictlySortedBy key_cmp (keys ++ key ∷ [])
sorted_push keys key s e = sorted_from_all_adjacent key_cmp_total (keys ++ key ∷ []) key (neighbours keys key s e)
