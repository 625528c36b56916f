-- Bytes that are a front and an end.
use Rattle.std.proofs.Common.{◌≡◌, ◌↔◌, ℕ, ◌+◌, Bool, List, [], ◌∷◌, ◌++◌, length, take, IsTrue, ap, sym, ◌∙◌, append_assoc}
use Rattle.std.proofs.Math.Seq.{take-append-add}
use Rattle.std.proofs.lemmas.List.{append_cancel_left}

-- bytes have one end behind a front
same_end : (front rest last whole : List ℕ) → whole ≡ front ++ rest → whole ≡ front ++ last → rest ≡ last
same_end front rest last whole cut same = append_cancel_left front rest last (sym cut ∙ same)

-- bytes that begin with a front are it and an end, where that comes behind it
pub joined_iff : (front rest last whole : List ℕ) (t : Bool) → whole ≡ front ++ rest → (IsTrue t ↔ (rest ≡ last)) → (IsTrue t ↔ (whole ≡ front ++ last))
joined_iff front rest last whole t cut same =
    (λ is. cut ∙ ap (λ l. front ++ l) (same.0 is), λ is. same.1 (same_end front rest last whole cut is))

-- bytes up to the first such byte, and that byte
pub cut_front : (front rest whole : List ℕ) (end : ℕ) → whole ≡ front ++ end ∷ rest → take (length front + 1) whole ≡ front ++ end ∷ []
cut_front front rest whole end cut = ap (take (length front + 1)) cut ∙ take-append-add front (end ∷ rest) 1

-- and the bytes behind it
pub cut_rest : (front rest whole : List ℕ) (end : ℕ) → whole ≡ front ++ end ∷ rest → whole ≡ take (length front + 1) whole ++ rest
cut_rest front rest whole end cut = cut ∙ sym (append_assoc front (end ∷ []) rest) ∙ ap (λ l. l ++ rest) (sym (cut_front front rest whole end cut))
