-- Lines and the pieces in which they are read.
use Rattle.std.proofs.Common.{◌≡◌, ◌≢◌, inl, inr, ℕ, suc, ◌+◌, ◌-◌, ◌≤◌, ◌<◌, Bool, true, false, not, List, [], ◌∷◌, ◌++◌, take, drop, set, length, refl, sym, ap, ◌∙◌, subst, arith, append_assoc, length-append, get_or}
use Rattle.std.specs.Prelude.{◌==◌, ◌&&◌}
use Rattle.std.specs.List.{list_all}
use Rattle.std.proofs.lemmas.Bool.{false≢true, cases_lt}
use Rattle.std.proofs.lemmas.List.{take_more_set, append-nil, length-take-le}
use Rattle.child_ports.specs.Git.{NoLineEnd}
use Rattle.object_frames.specs.Line.{IsPiece}
use Rattle.object_frames.proofs.BufferLemmas.{take_past}

pub no_end_append : (xs ys : List ℕ) → NoLineEnd xs → NoLineEnd ys → NoLineEnd (xs ++ ys)
no_end_append [] ys h k = k
no_end_append (x ∷ xs) ys h k = (h.0, no_end_append xs ys h.1 k)

-- a byte more
pub still_open : (line : List ℕ) (at b : ℕ) → at < length line → NoLineEnd (take at line) → b ≢ 10 → NoLineEnd (take (at + 1) (set line at b))
still_open line at b lt h ne = subst NoLineEnd (sym (take_more_set line at b lt)) (no_end_append (take at line) (b ∷ []) h (ne, tt))

pub stored : (whole p q line : List ℕ) (at b : ℕ) → at < length line → whole ≡ take at line ++ p → p ≡ b ∷ q → whole ≡ take (at + 1) (set line at b) ++ q
stored whole p q line at b lt was next =
    was ∙ ap (λ l. take at line ++ l) next ∙ sym (append_assoc (take at line) (b ∷ []) q) ∙ ap (λ l. l ++ q) (sym (take_more_set line at b lt))

-- the first end of a line is one place
pub same_line : (xs ys p q : List ℕ) → NoLineEnd xs → NoLineEnd ys → xs ++ 10 ∷ p ≡ ys ++ 10 ∷ q → (xs ≡ ys) × (p ≡ q)
same_line [] [] p q h k e = (refl, ap (drop 1) e)
same_line [] (y ∷ ys) p q h k e = absurd (k.0 (ap (λ l. get_or l 0 0) (sym e)))
same_line (x ∷ xs) [] p q h k e = absurd (h.0 (ap (λ l. get_or l 0 0) e))
same_line (x ∷ xs) (y ∷ ys) p q h k e =
    let rest = same_line xs ys p q h.1 k.1 (ap (drop 1) e) in
    let head : x ≡ y = ap (λ l. get_or l 0 0) e in
    (ap (λ z. z ∷ xs) head ∙ ap (λ l. y ∷ l) rest.0, rest.1)

-- no line ends in the front, so the line is longer
pub no_short_line : (xs ys p q : List ℕ) → NoLineEnd xs → xs ++ p ≡ ys ++ 10 ∷ q → length xs ≤ length ys
no_short_line [] ys p q h e = omega arith
no_short_line (x ∷ xs) [] p q h e = absurd (h.0 (ap (λ l. get_or l 0 0) e))
no_short_line (x ∷ xs) (y ∷ ys) p q h e = let rest = no_short_line xs ys p q h.1 (ap (drop 1) e) in omega arith

-- ---- what has no end of a line

and_right : (a b : Bool) → (a && b) ≡ true → b ≡ true
and_right true b h = h
and_right false b h = absurd (false≢true h)

pub no_end_test : (xs : List ℕ) → list_all (λ b. not (b == 10)) xs ≡ true → NoLineEnd xs
no_end_test [] h = tt
no_end_test (x ∷ xs) h =
    (λ e. absurd (false≢true (ap (λ z. list_all (λ b. not (b == 10)) (z ∷ xs)) (sym e) ∙ h)), no_end_test xs (and_right (not (x == 10)) (list_all (λ b. not (b == 10)) xs) h))

-- ---- pieces

-- a whole line at the front is the piece
pub line_is_piece : (room : ℕ) (whole piece rest text more : List ℕ) → IsPiece room piece rest → whole ≡ piece ++ rest → NoLineEnd text → length text < room → whole ≡ text ++ 10 ∷ more
    → (piece ≡ text ++ 10 ∷ []) × (rest ≡ more)
line_is_piece room whole piece rest text more (inl line) is plain fits e =
    let same = same_line line.0 text rest more line.1 plain (sym (append_assoc line.0 (10 ∷ []) rest) ∙ ap (λ l. l ++ rest) (sym line.2) ∙ sym is ∙ e) in
    (line.2 ∙ ap (λ l. l ++ 10 ∷ []) same.0, same.1)
line_is_piece room whole piece rest text more (inr (no_end, inl end)) is plain fits e =
    let long = no_short_line piece text rest more no_end (sym is ∙ e) in
    let size : length piece ≡ length text + suc (length more) = ap length (sym (append-nil piece) ∙ ap (λ r. piece ++ r) (sym end) ∙ sym is ∙ e) ∙ length-append text (10 ∷ more) in
    absurd (omega arith)
line_is_piece room whole piece rest text more (inr (no_end, inr full)) is plain fits e =
    let long = no_short_line piece text rest more no_end (sym is ∙ e) in
    absurd (omega arith)

-- a front of a line is no longer than the piece
too_long : (room : ℕ) (whole piece rest text more : List ℕ) (n : ℕ) → IsPiece room piece rest → whole ≡ piece ++ rest → NoLineEnd text → length text < room
    → n ≤ length whole → take n whole ++ more ≡ text ++ 10 ∷ [] → length piece < n → ⊥
too_long room whole piece rest text more n (inl line) is plain fits within e past =
    let k = n - length piece in
    let t = take k rest in
    let front : take n whole ≡ piece ++ t = ap (take n) is ∙ take_past piece rest n k (omega arith) in
    let joined : line.0 ++ 10 ∷ (t ++ more) ≡ text ++ 10 ∷ [] =
    sym (append_assoc line.0 (10 ∷ []) (t ++ more)) ∙ ap (λ l. l ++ (t ++ more)) (sym line.2) ∙ sym (append_assoc piece t more) ∙ ap (λ l. l ++ more) (sym front) ∙ e in
    let same = same_line line.0 text (t ++ more) [] line.1 plain joined in
    let size : length whole ≡ length piece + length rest = ap length is ∙ length-append piece rest in
    let count : length t ≡ k = length-take-le k rest (omega arith) in
    let none : length t + length more ≡ 0 = sym (length-append t more) ∙ ap length same.1 in
    omega arith
too_long room whole piece rest text more n (inr (no_end, inl end)) is plain fits within e past =
    let size : length whole ≡ length piece + length rest = ap length is ∙ length-append piece rest in
    let none : length rest ≡ 0 = ap length end in
    omega arith
too_long room whole piece rest text more n (inr (no_end, inr full)) is plain fits within e past =
    let size : length (take n whole) + length more ≡ length text + 1 = sym (length-append (take n whole) more) ∙ ap length e ∙ length-append text (10 ∷ []) in
    let count : length (take n whole) ≡ n = length-take-le n whole within in
    omega arith

pub front_in_piece : (room : ℕ) (whole piece rest text more : List ℕ) (n : ℕ) → IsPiece room piece rest → whole ≡ piece ++ rest → NoLineEnd text → length text < room
    → n ≤ length whole → take n whole ++ more ≡ text ++ 10 ∷ [] → n ≤ length piece
front_in_piece room whole piece rest text more n kind is plain fits within e =
    elim (cases_lt (length piece) n) [
      | inl past ↦ absurd (too_long room whole piece rest text more n kind is plain fits within e past)
      | inr le ↦ le
    ]
