-- Buffers that are filled piece by piece.
use Rattle.std.proofs.Common.{◌≡◌, ℕ, zero, suc, ◌+◌, ◌-◌, ◌≤◌, List, [], ◌∷◌, ◌++◌, take, drop, length, sym, ap, ◌∙◌, arith, append_assoc, length-take, length-drop}
use Rattle.std.proofs.lemmas.List.{take-append-le, length-take-le}
use borrow.Rule.Slice.PartMut.{put_mid, post_of, mid_of, same_len_mid}

-- the front of two lists, one after the other
pub take_past : (xs ys : List ℕ) (m n : ℕ) → m ≡ length xs + n → take m (xs ++ ys) ≡ xs ++ take n ys
take_past [] ys m n is = let same : m ≡ n = omega arith in ap (λ (k : ℕ). take k ys) same
take_past (x ∷ xs) ys zero n is = absurd (omega arith)
take_past (x ∷ xs) ys (suc m) n is = ap (λ (l : List ℕ). x ∷ l) (take_past xs ys m n (omega arith))

-- n bytes more stand in the buffer from a place on
pub filled : (whole p q buf new : List ℕ) (at k n : ℕ) → at ≤ length buf → n ≤ length new → whole ≡ take at buf ++ p → p ≡ take n new ++ q
    → whole ≡ take (at + n) (put_mid at k buf new) ++ q
filled whole p q buf new at k n within fits was more =
    let size : at + n ≡ length (take at buf) + n = omega (arith, length-take-le at buf within) in
    let front : take (at + n) (put_mid at k buf new) ≡ take at buf ++ take n new =
    take_past (take at buf) (new ++ post_of at k buf) (at + n) n size ∙ ap (λ l. take at buf ++ l) (take-append-le n new (post_of at k buf) fits) in
    was ∙ ap (λ l. take at buf ++ l) more ∙ sym (append_assoc (take at buf) (take n new) q) ∙ ap (λ l. l ++ q) (sym front)

-- a buffer keeps its length
pub length_put : (at : ℕ) (buf new : List ℕ) → at ≤ length buf → length new ≡ length (mid_of at (length buf - at) buf) → length (put_mid at (length buf - at) buf new) ≡ length buf
length_put at buf new within same = same_len_mid at (length buf - at) buf new same

pub length_mid : (at : ℕ) (buf : List ℕ) → at ≤ length buf → length (mid_of at (length buf - at) buf) ≡ length buf - at
length_mid at buf within = omega (arith, length-take (length buf - at) (drop at buf), length-drop at buf)
