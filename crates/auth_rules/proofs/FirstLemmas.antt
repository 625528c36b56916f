-- The first of several.
use Rattle.std.proofs.Common.{◌≡◌, List, [], ◌∷◌, ◌++◌, Option, Some, None, refl, ap}
use Rattle.auth_rules.specs.Rules.{first}

pub first-found : {A : Type 0} (o : Option A) (rest : List (Option A)) (x : A) → o ≡ Some x → first (o ∷ rest) ≡ Some x
first-found o rest x e = ap (λ v. first (v ∷ rest)) e

pub first-next : {A : Type 0} (o : Option A) (rest : List (Option A)) → o ≡ None → first (o ∷ rest) ≡ first rest
first-next o rest e = ap (λ v. first (v ∷ rest)) e

pub first-last : {A : Type 0} (o : Option A) → first (o ∷ []) ≡ o
first-last (Some x) = refl
first-last None = refl

pub first-same : {A : Type 0} (o : Option A) (xs ys : List (Option A)) → first xs ≡ first ys → first (o ∷ xs) ≡ first (o ∷ ys)
first-same (Some x) xs ys e = refl
first-same None xs ys e = e

-- the first of two lists after each other
pub found-append : {A : Type 0} (xs ys : List (Option A)) (x : A) → first xs ≡ Some x → first (xs ++ ys) ≡ Some x
found-append [] ys x e = cc
found-append (Some y ∷ xs) ys x e = e
found-append (None ∷ xs) ys x e = found-append xs ys x e

pub none-append : {A : Type 0} (xs ys : List (Option A)) → first xs ≡ None → first (xs ++ ys) ≡ first ys
none-append [] ys e = refl
none-append (Some y ∷ xs) ys e = cc
none-append (None ∷ xs) ys e = none-append xs ys e

-- the first of a list and of one more
pub first-join : {A : Type 0} (xs : List (Option A)) (o : Option A) → first (first xs ∷ o ∷ []) ≡ first (xs ++ o ∷ [])
first-join [] o = refl
first-join (Some x ∷ xs) o = refl
first-join (None ∷ xs) o = first-join xs o
