-- A text and its lines.
use Rattle.std.proofs.Common.{◌≡◌, ℕ, true, false, cond, eqb, List, [], ◌∷◌, ◌++◌, refl, sym, ap, ◌∙◌, append_assoc}
use Rattle.std.specs.List.{AllByRecursion, flat_map}
use Rattle.std.proofs.lemmas.Bool.{eqb-true, eqb-false, ne_eqb}
use Rattle.auth_cache.specs.Lines.{NoLineEnd, Lines, line, put_byte, lines_of}

pub lines_cons : (l rest : List ℕ) → NoLineEnd l → lines_of (l ++ 10 ∷ rest) ≡ record { whole = l ∷ (lines_of rest).whole; left = (lines_of rest).left }
lines_cons [] rest h = refl
lines_cons (b ∷ l) rest h =
    ap (λ t. cond t (record { whole = [] ∷ (lines_of (l ++ 10 ∷ rest)).whole; left = (lines_of (l ++ 10 ∷ rest)).left }) (put_byte b (lines_of (l ++ 10 ∷ rest)).whole (lines_of (l ++ 10 ∷ rest)).left)) (ne_eqb b 10 h.0)
    ∙ ap (λ (ls : Lines). put_byte b ls.whole ls.left) (lines_cons l rest h.1)

pub lines_none : (l : List ℕ) → NoLineEnd l → lines_of l ≡ record { whole = []; left = l }
lines_none [] h = refl
lines_none (b ∷ l) h =
    ap (λ t. cond t (record { whole = [] ∷ (lines_of l).whole; left = (lines_of l).left }) (put_byte b (lines_of l).whole (lines_of l).left)) (ne_eqb b 10 h.0)
    ∙ ap (λ (ls : Lines). put_byte b ls.whole ls.left) (lines_none l h.1)

-- the lines of whole lines and a text
pub lines_front : (ls : List (List ℕ)) (rest : List ℕ) → AllByRecursion NoLineEnd ls → lines_of (flat_map line ls ++ rest) ≡ record { whole = ls ++ (lines_of rest).whole; left = (lines_of rest).left }
lines_front [] rest h = refl
lines_front (l ∷ ls) rest h =
    ap lines_of (append_assoc (line l) (flat_map line ls) rest ∙ append_assoc l (10 ∷ []) (flat_map line ls ++ rest))
    ∙ lines_cons l (flat_map line ls ++ rest) h.0
    ∙ ap (λ (it : Lines). record { whole = l ∷ it.whole; left = it.left }) (lines_front ls rest h.1)

-- a text is its lines
put_joined : (b : ℕ) (ls : List (List ℕ)) (left : List ℕ) → flat_map line (put_byte b ls left).whole ++ (put_byte b ls left).left ≡ b ∷ (flat_map line ls ++ left)
put_joined b [] left = refl
put_joined b (l ∷ ls) left = refl

pub lines_joined : (text : List ℕ) → flat_map line (lines_of text).whole ++ (lines_of text).left ≡ text
lines_joined [] = refl
lines_joined (b ∷ text) = elim (eqb b 10) as (λ t. t ≡ eqb b 10 →
    flat_map line (cond t (record { whole = [] ∷ (lines_of text).whole; left = (lines_of text).left }) (put_byte b (lines_of text).whole (lines_of text).left)).whole
    ++ (cond t (record { whole = [] ∷ (lines_of text).whole; left = (lines_of text).left }) (put_byte b (lines_of text).whole (lines_of text).left)).left ≡ b ∷ text) [
      | true ↦ λ e. ap (λ l. 10 ∷ l) (lines_joined text) ∙ ap (λ c. c ∷ text) (sym (eqb-true b 10 (sym e)))
      | false ↦ λ e. put_joined b (lines_of text).whole (lines_of text).left ∙ ap (λ l. b ∷ l) (lines_joined text)
    ] refl

-- none of its lines has an end within
put_each : (b : ℕ) (ls : List (List ℕ)) (left : List ℕ) → eqb b 10 ≡ false → AllByRecursion NoLineEnd ls → AllByRecursion NoLineEnd (put_byte b ls left).whole
put_each b [] left other h = tt
put_each b (l ∷ ls) left other h = ((eqb-false b 10 other, h.0), h.1)

pub lines_each : (text : List ℕ) → AllByRecursion NoLineEnd (lines_of text).whole
lines_each [] = tt
lines_each (b ∷ text) = elim (eqb b 10) as (λ t. t ≡ eqb b 10 →
    AllByRecursion NoLineEnd (cond t (record { whole = [] ∷ (lines_of text).whole; left = (lines_of text).left }) (put_byte b (lines_of text).whole (lines_of text).left)).whole) [
      | true ↦ λ e. (tt, lines_each text)
      | false ↦ λ e. put_each b (lines_of text).whole (lines_of text).left (sym e) (lines_each text)
    ] refl
