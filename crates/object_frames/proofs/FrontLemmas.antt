-- How far two texts go together.
use Rattle.std.proofs.Common.{◌≡◌, ℕ, suc, ◌+◌, ◌≤◌, ◌<◌, Bool, true, false, cond, nat_eq, List, [], ◌∷◌, ◌++◌, drop, length, refl, sym, ap, ◌∙◌, arith, zero-add}
use Rattle.std.proofs.lemmas.Bool.Decides.{nat_tests}
use Rattle.object_frames.specs.Fronts.{common, go_on}

pub go_on_inside : (front whole more : ℕ) → front < whole → go_on front whole more ≡ front
go_on_inside front whole more lt = grind (arith, nat_tests)

pub go_on_past : (front whole more : ℕ) → whole ≤ front → go_on front whole more ≡ front + more
go_on_past front whole more le = grind (arith, nat_tests)

go_on-suc : (front whole more : ℕ) → go_on (1 + front) (suc whole) more ≡ 1 + go_on front whole more
go_on-suc front whole more = grind (arith, nat_tests)

step : (x : ℕ) (xs ys zs : List ℕ) → common xs (ys ++ zs) ≡ go_on (common xs ys) (length ys) (common (drop (common xs ys) xs) zs)
    → (v : Bool) → cond v (1 + common xs (ys ++ zs)) 0 ≡ go_on (cond v (1 + common xs ys) 0) (suc (length ys)) (common (drop (cond v (1 + common xs ys) 0) (x ∷ xs)) zs)
step x xs ys zs tail true =
    let more : 1 + common xs ys ≡ suc (common xs ys) = omega arith in
    let rest = ap (λ (n : ℕ). common (drop n (x ∷ xs)) zs) more in
    ap (λ (n : ℕ). 1 + n) tail ∙ sym (go_on-suc (common xs ys) (length ys) (common (drop (common xs ys) xs) zs)) ∙ ap (go_on (1 + common xs ys) (suc (length ys))) (sym rest)
step x xs ys zs tail false = sym (go_on_inside 0 (suc (length ys)) (common (x ∷ xs) zs) (omega arith))

-- a text in two parts
pub common-append : (xs ys zs : List ℕ) → common xs (ys ++ zs) ≡ go_on (common xs ys) (length ys) (common (drop (common xs ys) xs) zs)
common-append [] [] zs = refl
common-append (x ∷ xs) [] zs = sym (zero-add (common (x ∷ xs) zs))
common-append [] (y ∷ ys) zs = sym (go_on_inside 0 (suc (length ys)) (common [] zs) (omega arith))
common-append (x ∷ xs) (y ∷ ys) zs = step x xs ys zs (common-append xs ys zs) (nat_eq x y)
