-- Cuts and parts.
use Rattle.std.proofs.Common.{◌≡◌, ◌≢◌, ℕ, suc, ◌+◌, ◌-◌, ◌≤◌, ◌<◌, true, false, not, cond, eqb, Some, None, List, [], ◌∷◌, ◌++◌, take, drop, length, refl, sym, ap, ◌∙◌, subst, arith}
use Rattle.std.specs.List.{position, position_or_len}
use Rattle.std.proofs.lemmas.Bool.{eqb-true, eqb-false, ne_eqb, eq-eqb}
use Rattle.std.proofs.lemmas.List.{take-append-drop, drop_more, length-take-le, get_or-take, take_rest}
use Rattle.std.proofs.lemmas.List.Elements.{recursion_from_All, All-from_recursion, All-from_get_or, All-weaker}
use Rattle.std.proofs.lemmas.List.Quantifiers.{position-Some}
use Rattle.std.proofs.lemmas.List.Splits.{slice_split_at, slice_split_none}
use Rattle.byte_cuts.specs.Cuts.{Lacks, parts_at}

-- the parts of what lacks the byte, and of what has it
pub parts_none : (end : ℕ) (xs : List ℕ) → Lacks end xs → parts_at end xs ≡ xs ∷ []
parts_none end xs h = slice_split_none (λ b. eqb b end) xs (All-weaker (λ b. b ≢ end) (λ b. eqb b end ≡ false) (λ b ne. ne_eqb b end ne) xs (All-from_recursion (λ b. b ≢ end) xs h))

pub parts_cut : (end : ℕ) (xs ys : List ℕ) → Lacks end xs → parts_at end (xs ++ end ∷ ys) ≡ xs ∷ parts_at end ys
parts_cut end xs ys h = slice_split_at (λ b. eqb b end) xs end ys (All-weaker (λ b. b ≢ end) (λ b. eqb b end ≡ false) (λ b ne. ne_eqb b end ne) xs (All-from_recursion (λ b. b ≢ end) xs h)) (eq-eqb end end refl)

-- what stands round the first such byte
pub cut_there : (end : ℕ) (xs : List ℕ) (i : ℕ) → position (λ b. eqb b end) xs ≡ Some i → Lacks end (take i xs) × (xs ≡ take i xs ++ end ∷ take (length xs - (i + 1)) (drop (i + 1) xs))
cut_there end xs i found =
    let at = position-Some (λ b. eqb b end) xs i 0 found in
    let inside : i < length xs = at.0 in
    let size : length (take i xs) ≡ i = length-take-le i xs (omega arith) in (
      recursion_from_All (λ b. b ≢ end) (take i xs) (All-from_get_or (λ b. b ≢ end) (take i xs) 0 (λ k lt.
          let below : k < i = omega arith in
          subst (λ (b : ℕ). b ≢ end) (sym (get_or-take i xs k 0 below)) (eqb-false _ _ (at.2 k below)))),
      sym (take-append-drop i xs) ∙ ap (λ l. take i xs ++ l) (drop_more xs i 0 inside ∙ ap (λ b. b ∷ drop (i + 1) xs) (eqb-true _ _ at.1) ∙ ap (λ l. end ∷ l) (sym (take_rest xs (i + 1)))),
    )

lacks_by_count : (end : ℕ) (xs : List ℕ) → length xs ≤ position_or_len (λ b. eqb b end) xs → Lacks end xs
lacks_by_count end [] h = tt
lacks_by_count end (x ∷ xs) h =
    elim (eqb x end) as (λ v. v ≡ eqb x end → suc (length xs) ≤ cond (not v) (1 + position_or_len (λ b. eqb b end) xs) 0 → Lacks end (x ∷ xs)) [
      | true ↦ λ e k. absurd (omega arith)
      | false ↦ λ e k. (eqb-false x end (sym e), lacks_by_count end xs (omega arith))
    ] refl h

pub lacks_it : (end : ℕ) (xs : List ℕ) → position (λ b. eqb b end) xs ≡ None → Lacks end xs
lacks_it end xs none = lacks_by_count end xs (grind arith)
