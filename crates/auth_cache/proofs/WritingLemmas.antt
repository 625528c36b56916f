-- Texts that are put together.
use Rattle.std.proofs.Common.{◌≡◌, ℕ, ◌+◌, ◌<◌, Result, Ok, Err, OnOk, List, [], ◌∷◌, ◌++◌, take, length, get_or, sym, ap, ◌∙◌, subst, append_assoc}
use Rattle.std.specs.List.{AllByRecursion, flat_map}
use Rattle.std.proofs.lemmas.List.{take_more, flat_map_more}

-- four parts behind a text
four_parts : (old t1 t2 t3 t4 w x y z : List ℕ) → t1 ≡ old ++ w → t2 ≡ t1 ++ x → t3 ≡ t2 ++ y → t4 ≡ t3 ++ z → t4 ≡ old ++ (w ++ (x ++ (y ++ z)))
four_parts old t1 t2 t3 t4 w x y z a b c d =
    d ∙ ap (λ t. t ++ z) (c ∙ ap (λ t. t ++ y) (b ∙ ap (λ t. t ++ x) a))
    ∙ append_assoc ((old ++ w) ++ x) y z ∙ append_assoc (old ++ w) x (y ++ z) ∙ append_assoc old w (x ++ (y ++ z))

pub four_pushed : {E : Type 0} (r : Result (Unit {0}) E) (old t1 t2 t3 t4 w x y z : List ℕ) → t1 ≡ old ++ w → t2 ≡ t1 ++ x → t3 ≡ t2 ++ y → OnOk r (t4 ≡ t3 ++ z) → OnOk r (t4 ≡ old ++ (w ++ (x ++ (y ++ z))))
four_pushed (Ok u) old t1 t2 t3 t4 w x y z a b c d = four_parts old t1 t2 t3 t4 w x y z a b c d
four_pushed (Err e) old t1 t2 t3 t4 w x y z a b c d = tt

pub four_from_none : (t1 t2 t3 t4 w x y z : List ℕ) → t1 ≡ w → t2 ≡ t1 ++ x → t3 ≡ t2 ++ y → t4 ≡ t3 ++ z → t4 ≡ w ++ (x ++ (y ++ z))
four_from_none t1 t2 t3 t4 w x y z a b c d = four_parts [] t1 t2 t3 t4 w x y z a b c d

-- the text of one element more
pub text_more : {X : Type 0} (f : X → List ℕ) (xs : List X) (i : ℕ) (d : X) (old before now : List ℕ) → i < length xs → before ≡ old ++ flat_map f (take i xs) → now ≡ before ++ f (get_or xs i d) → now ≡ old ++ flat_map f (take (i + 1) xs)
text_more f xs i d old before now lt was is =
    is ∙ ap (λ t. t ++ f (get_or xs i d)) was ∙ append_assoc old (flat_map f (take i xs)) (f (get_or xs i d))
    ∙ ap (λ t. old ++ t) (flat_map_more f [] (take i xs) (get_or xs i d) ∙ ap (flat_map f) (sym (take_more xs i d lt)))

pub each_push : {X : Type 0} (P : X → Type 0) (xs : List X) (x : X) → AllByRecursion P xs → P x → AllByRecursion P (xs ++ x ∷ [])
each_push P [] x h k = (k, tt)
each_push P (y ∷ xs) x h k = (h.0, each_push P xs x h.1 k)

pub each_more : {X : Type 0} (P : X → Type 0) (xs : List X) (i : ℕ) (d : X) → i < length xs → AllByRecursion P (take i xs) → P (get_or xs i d) → AllByRecursion P (take (i + 1) xs)
each_more P xs i d lt before here = subst (AllByRecursion P) (sym (take_more xs i d lt)) (each_push P (take i xs) (get_or xs i d) before here)
