-- Cuts of bytes, and what a prefix keeps.
use Rattle.std.proofs.Common.{◌≡◌, ◌≢◌, ℕ, true, false, cond, eqb, ◌||◌, Option, Some, None, MatchOption, Bor, is_some, List, [], ◌∷◌, ◌++◌, drop, get_or, refl, sym, ap, ◌∙◌, option_map}
use Rattle.std.proofs.lemmas.Bool.{false≢true, eqb-false, ne_eqb, eq-eqb, or_parts}
use Rattle.byte_cuts.specs.Cuts.{Lacks}
use Rattle.tree_entries.specs.Tree.{has}
use Rattle.tree_entries.specs.Reading.{cut}

-- ---- whether a byte is there

pub lacks_has : (byte : ℕ) (bytes : List ℕ) → Lacks byte bytes → has byte bytes ≡ false
lacks_has byte [] h = refl
lacks_has byte (b ∷ bytes) h = ap (λ t. t || has byte bytes) (ne_eqb b byte h.0) ∙ lacks_has byte bytes h.1

pub has_lacks : (byte : ℕ) (bytes : List ℕ) → has byte bytes ≡ false → Lacks byte bytes
has_lacks byte [] h = tt
has_lacks byte (b ∷ bytes) h =
    let parts = or_parts (eqb b byte) (has byte bytes) h in (eqb-false b byte parts.0, has_lacks byte bytes parts.1)

pub has_there : (byte : ℕ) (front back : List ℕ) → has byte (front ++ byte ∷ back) ≡ true
has_there byte [] back = ap (λ t. t || has byte back) (eq-eqb byte byte refl)
has_there byte (b ∷ front) back = elim (eqb b byte) as (λ t. (t || has byte (front ++ byte ∷ back)) ≡ true) [
  | true ↦ refl
  | false ↦ has_there byte front back
]

pub has_front : (byte : ℕ) (front back : List ℕ) → has byte front ≡ true → has byte (front ++ back) ≡ true
has_front byte [] back h = absurd (false≢true h)
has_front byte (b ∷ front) back h = elim (eqb b byte) as (λ t. (t || has byte front) ≡ true → (t || has byte (front ++ back)) ≡ true) [
  | true ↦ λ e. refl
  | false ↦ λ e. has_front byte front back e
] h

-- ---- the first such byte

pub cut_at_it : (end : ℕ) (front back : List ℕ) → Lacks end front → cut end (front ++ end ∷ back) ≡ Some (front, back)
cut_at_it end [] back h = ap (λ t. cond t (Some ([], back)) (option_map (λ (parts : List ℕ × List ℕ). (end ∷ parts.0, parts.1)) (cut end back))) (eq-eqb end end refl)
cut_at_it end (b ∷ front) back h =
    ap (λ t. cond t (Some ([], front ++ end ∷ back)) (option_map (λ (parts : List ℕ × List ℕ). (b ∷ parts.0, parts.1)) (cut end (front ++ end ∷ back)))) (ne_eqb b end h.0)
    ∙ ap (option_map (λ (parts : List ℕ × List ℕ). (b ∷ parts.0, parts.1))) (cut_at_it end front back h.1)

pub cut_nowhere : (end : ℕ) (bytes : List ℕ) → Lacks end bytes → cut end bytes ≡ None
cut_nowhere end [] h = refl
cut_nowhere end (b ∷ bytes) h =
    ap (λ t. cond t (Some ([], bytes)) (option_map (λ (parts : List ℕ × List ℕ). (b ∷ parts.0, parts.1)) (cut end bytes))) (ne_eqb b end h.0)
    ∙ ap (option_map (λ (parts : List ℕ × List ℕ). (b ∷ parts.0, parts.1))) (cut_nowhere end bytes h.1)

pub same_cut : (end : ℕ) (xs ys p q : List ℕ) → Lacks end xs → Lacks end ys → xs ++ end ∷ p ≡ ys ++ end ∷ q → (xs ≡ ys) × (p ≡ q)
same_cut end [] [] p q h k e = (refl, ap (drop 1) e)
same_cut end [] (y ∷ ys) p q h k e = absurd (k.0 (ap (λ l. get_or l 0 0) (sym e)))
same_cut end (x ∷ xs) [] p q h k e = absurd (h.0 (ap (λ l. get_or l 0 0) e))
same_cut end (x ∷ xs) (y ∷ ys) p q h k e =
    let rest = same_cut end xs ys p q h.1 k.1 (ap (drop 1) e) in
    let head : x ≡ y = ap (λ l. get_or l 0 0) e in
    (ap (λ z. z ∷ xs) head ∙ ap (λ l. y ∷ l) rest.0, rest.1)

-- bytes that lack the first such byte of a text that they begin stand before it
pub before_cut : (end : ℕ) (xs p front more : List ℕ) → Lacks end front → xs ++ end ∷ p ≡ front ++ more → (tail : List ℕ) × (xs ≡ front ++ tail)
before_cut end xs p [] more h e = (xs, refl)
before_cut end [] p (b ∷ front) more h e = absurd (h.0 (sym (ap (λ l. get_or l 0 0) e)))
before_cut end (x ∷ xs) p (b ∷ front) more h e =
    let rest = before_cut end xs p front more h.1 (ap (drop 1) e) in
    let head : x ≡ b = ap (λ l. get_or l 0 0) e in
    (rest.0, ap (λ z. z ∷ xs) head ∙ ap (λ l. b ∷ l) rest.1)

pub no_nil : (front : List ℕ) (end : ℕ) (back : List ℕ) → front ++ end ∷ back ≢ []
no_nil [] end back e = cc
no_nil (b ∷ front) end back e = cc

-- whether a byte is there, as `cut_at` says
pub cut_tells : (byte : ℕ) (bytes : List ℕ) (r : Option (Bor (List ℕ) × Bor (List ℕ))) → MatchOption r (Lacks byte bytes) (λ parts. Lacks byte parts.0.now × (bytes ≡ parts.0.now ++ byte ∷ parts.1.now)) → is_some r ≡ has byte bytes
cut_tells byte bytes None h = sym (lacks_has byte bytes h)
cut_tells byte bytes (Some parts) h = sym (ap (has byte) h.1 ∙ has_there byte parts.0.now parts.1.now)
