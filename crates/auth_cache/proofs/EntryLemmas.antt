-- Commits that are distinct, and no more than 64.
use Rattle.std.proofs.Common.{◌≡◌, ℕ, zero, suc, ◌+◌, ◌<◌, ◌≤◌, Bool, true, false, not, cond, ltb, ◌&&◌, List, [], ◌∷◌, ◌++◌, take, length, get_or, refl, sym, ap, ◌∙◌, arith, append-nil}
use Rattle.std.specs.Prelude.{bytes_eq, filter}
use Rattle.std.specs.List.{All, AllByRecursion, IsDistinct}
use Rattle.std.proofs.lemmas.Bool.{ltb-true, ltb-false}
use Rattle.std.proofs.lemmas.Cmp.{nat_list_eq_equiv}
use Rattle.std.proofs.lemmas.List.Elements.{All-from_recursion, filter_more, recursion_from_All}
use Rattle.auth_cache.specs.Entries.{AreEntries, with_id}
use Rattle.auth_cache.specs.EntriesInside.{with_other}

-- ---- the first so many of a list

take_full : {X : Type 0} (n : ℕ) (xs ys : List X) → n ≤ length (take n xs) → take n (xs ++ ys) ≡ take n xs
take_full zero xs ys h = refl
take_full (suc n) [] ys h = absurd (omega arith)
take_full (suc n) (x ∷ xs) ys h = ap (λ l. x ∷ l) (take_full n xs ys (omega arith))

take_none : {X : Type 0} (n : ℕ) → ◌≡◌ {A = List X} (take n []) []
take_none zero = refl
take_none (suc n) = refl

take_room : {X : Type 0} (n : ℕ) (xs : List X) (y : X) → length (take n xs) < n → take n (xs ++ y ∷ []) ≡ take n xs ++ y ∷ []
take_room zero xs y h = absurd (omega arith)
take_room (suc n) [] y h = ap (λ l. y ∷ l) (take_none n)
take_room (suc n) (x ∷ xs) y h = ap (λ l. x ∷ l) (take_room n xs y (omega arith))

take_few : {X : Type 0} (n : ℕ) (xs : List X) → length (take n xs) ≤ n
take_few zero xs = omega arith
take_few (suc n) [] = omega arith
take_few (suc n) (x ∷ xs) = let h = take_few n xs in omega arith

-- what holds of each still does of the first so many, and of those that pass a test
pub each_take : {X : Type 0} (P : X → Type 0) (n : ℕ) (xs : List X) → AllByRecursion P xs → AllByRecursion P (take n xs)
each_take P zero xs h = tt
each_take P (suc n) [] h = tt
each_take P (suc n) (x ∷ xs) h = (h.0, each_take P n xs h.1)

pub each_filter : {X : Type 0} (P : X → Type 0) (p : X → Bool) (xs : List X) → AllByRecursion P xs → AllByRecursion P (filter p xs)
each_filter P p [] h = tt
each_filter P p (x ∷ xs) h = elim (p x) as (λ b. AllByRecursion P (cond b (x ∷ filter p xs) (filter p xs))) [ true ↦ (h.0, each_filter P p xs h.1) | false ↦ each_filter P p xs h.1 ]

-- ---- distinct commits

distinct_take : (n : ℕ) (ids : List (List ℕ)) → IsDistinct bytes_eq ids → IsDistinct bytes_eq (take n ids)
unfolding IsDistinct
distinct_take zero ids h = tt
distinct_take (suc n) [] h = tt
distinct_take (suc n) (id ∷ ids) h = (each_take (λ other. bytes_eq id other ≡ false) n ids h.0, distinct_take n ids h.1)

distinct_filter : (p : List ℕ → Bool) (ids : List (List ℕ)) → IsDistinct bytes_eq ids → IsDistinct bytes_eq (filter p ids)
unfolding IsDistinct
distinct_filter p [] h = tt
distinct_filter p (id ∷ ids) h = elim (p id) as (λ b. IsDistinct bytes_eq (cond b (id ∷ filter p ids) (filter p ids))) [
  | true ↦ (each_filter (λ other. bytes_eq id other ≡ false) p ids h.0, distinct_filter p ids h.1)
  | false ↦ distinct_filter p ids h.1
]

pub bytes_eq-flip : (a b : List ℕ) → bytes_eq a b ≡ bytes_eq b a
bytes_eq-flip a b = nat_list_eq_equiv.symm a b

-- those that are not the commit
abbrev pub others_of : List ℕ → List (List ℕ) → List (List ℕ)
others_of id ids = filter (λ other. not (bytes_eq other id)) ids

others_differ : (id : List ℕ) (ids : List (List ℕ)) → AllByRecursion (λ other. bytes_eq id other ≡ false) (others_of id ids)
others_differ id [] = tt
others_differ id (other ∷ ids) = elim (bytes_eq other id) as (λ b. b ≡ bytes_eq other id → AllByRecursion (λ other. bytes_eq id other ≡ false) (cond (not b) (other ∷ others_of id ids) (others_of id ids))) [
  | true ↦ λ e. others_differ id ids
  | false ↦ λ e. (bytes_eq-flip id other ∙ sym e, others_differ id ids)
] refl

-- ---- one commit more

pub AreEntries-none : AreEntries []
unfolding IsDistinct
AreEntries-none = record { distinct = tt; few = omega arith }

pub AreEntries-with_id : (id : List ℕ) (old : List (List ℕ)) → IsDistinct bytes_eq old → AreEntries (with_id id old)
unfolding IsDistinct
AreEntries-with_id id old h = record {
  distinct = distinct_take 64 (id ∷ others_of id old) (others_differ id old, distinct_filter (λ other. not (bytes_eq other id)) old h);
  few = take_few 64 (id ∷ others_of id old);
}

pub each-with_id : (P : List ℕ → Type 0) (id : List ℕ) (old : List (List ℕ)) → P id → AllByRecursion P old → AllByRecursion P (with_id id old)
each-with_id P id old here others = each_take P 64 (id ∷ others_of id old) (here, each_filter P (λ other. not (bytes_eq other id)) old others)

pub All-with_id : (P : List ℕ → Type 0) (id : List ℕ) (old : List (List ℕ)) → P id → All P old → All P (with_id id old)
All-with_id P id old here others = All-from_recursion P (with_id id old) (each-with_id P id old here (recursion_from_All P old others))

-- ---- one of the others after another

one_other : (n : ℕ) (id other : List ℕ) (others : List (List ℕ)) (b : Bool)
    → cond (b && ltb (length (take n (id ∷ others))) n) (take n (id ∷ others) ++ other ∷ []) (take n (id ∷ others)) ≡ take n (id ∷ (others ++ cond b (other ∷ []) []))
one_other n id other others false = sym (ap (λ l. take n (id ∷ l)) (append-nil others))
one_other n id other others true = elim (ltb (length (take n (id ∷ others))) n) as (λ t. ltb (length (take n (id ∷ others))) n ≡ t
    → cond t (take n (id ∷ others) ++ other ∷ []) (take n (id ∷ others)) ≡ take n (id ∷ (others ++ other ∷ []))) [
      | true ↦ λ e. sym (take_room n (id ∷ others) other (ltb-true _ _ e))
      | false ↦ λ e. sym (take_full n (id ∷ others) (other ∷ []) (ltb-false _ _ e))
    ] refl

pub with_other-more : (id : List ℕ) (old : List (List ℕ)) (i : ℕ) (d : List ℕ) → i < length old → with_other (with_id id (take i old)) id (get_or old i d) ≡ with_id id (take (i + 1) old)
with_other-more id old i d below =
    one_other 64 id (get_or old i d) (others_of id (take i old)) (not (bytes_eq (get_or old i d) id))
    ∙ sym (ap (λ l. take 64 (id ∷ l)) (filter_more (λ other. not (bytes_eq other id)) old i d below))
