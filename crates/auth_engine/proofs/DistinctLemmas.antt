-- A list without repetition is as long as what it is taken from, at most.
use Rattle.std.proofs.Common.{◌≡◌, ◌≢◌, ◌⊎◌, inl, inr, ℕ, zero, suc, ◌<◌, ◌≤◌, List, [], ◌∷◌, ◌++◌, length, ap, subst, arith, length-append}
use Rattle.std.specs.Prelude.{Contains, All, AllPairs, slice_index_or}
use Rattle.std.proofs.lemmas.List.Elements.{Contains-append_cases, Contains-append_left, Contains-append_right}
use Rattle.auth_rules.specs.World.{Id}
use Rattle.commit_history.specs.Members.{AtMost, MoreThan}

module _ {A : Type 0} where
  split_at : (ys : List A) (x : A) (k : ℕ) → k < length ys → slice_index_or ys k x ≡ x → (front : List A) × (back : List A) × (ys ≡ front ++ x ∷ back)
  split_at [] x k lt e = absurd (omega (arith, lt))
  split_at (y ∷ ys) x zero lt e = ([], ys, ap (λ v. v ∷ ys) e)
  split_at (y ∷ ys) x (suc k) lt e = let r = split_at ys x k (omega (arith, lt)) e in (y ∷ r.0, r.1, ap (λ v. y ∷ v) r.2)

  cons_cases : (y : A) (ys : List A) (x : A) (k : ℕ) → k < length (y ∷ ys) → slice_index_or (y ∷ ys) k x ≡ x → (y ≡ x) ⊎ Contains ys x
  cons_cases y ys x zero lt e = inl e
  cons_cases y ys x (suc k) lt e = inr (k, omega (arith, lt), e)

  other : (front back : List A) (x z : A) → x ≢ z → Contains (front ++ x ∷ back) z → Contains (front ++ back) z
  other front back x z ne has = elim (Contains-append_cases front (x ∷ back) z has) [
    | inl h ↦ Contains-append_left front back z h
    | inr h ↦ elim (cons_cases x back z h.0 h.1 h.2) [ inl e ↦ absurd (ne e) | inr g ↦ Contains-append_right front back z g ]
  ]

  pub length-le_distinct : (xs ys : List A) → AllPairs ◌≢◌ xs → All (Contains ys) xs → length xs ≤ length ys
  length-le_distinct [] ys pairs all = omega arith
  length-le_distinct (x ∷ xs) ys pairs all =
      let h = all 0 x (omega arith) in
      let s = split_at ys x h.0 h.1 h.2 in
      let tail : AllPairs ◌≢◌ xs = λ i j d ij jl. pairs (suc i) (suc j) d (omega (arith, ij)) (omega (arith, jl)) in
      let rest : All (Contains (s.0 ++ s.1)) xs = λ k d kl.
      other s.0 s.1 x (slice_index_or xs k d) (pairs 0 (suc k) d (omega arith) (omega (arith, kl)))
      (let Q : List A → Type 0 = λ us. Contains us (slice_index_or xs k d) in subst Q s.2 (all (suc k) d (omega (arith, kl)))) in
      let ih = length-le_distinct xs (s.0 ++ s.1) tail rest in
      omega (arith, ih, ap length s.2, length-append s.0 (x ∷ s.1), length-append s.0 s.1)

-- more than so many aren't at most so many
pub not_both : (n : ℕ) (Is : Id → Type 0) → AtMost n Is → MoreThan n Is → ⊥
not_both n Is few many =
    let all : All (Contains few.ids) many.ids = λ k d kl. few.complete _ (many.such k d kl) in
    absurd (omega (arith, few.few, many.many, length-le_distinct many.ids few.ids many.different all))
