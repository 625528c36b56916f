-- Answers that are framed.
use Rattle.std.proofs.Common.{◌≡◌, inl, inr, ℕ, ◌+◌, suc, Bool, true, false, cond, ◌&&◌, List, [], ◌∷◌, ◌++◌, drop, length, get_or, refl, sym, ap, ◌∙◌, subst, arith, append_assoc, length-append, decimal, codes, bytes_eq}
use Rattle.std.specs.List.{AllByRecursion}
use Rattle.std.proofs.lemmas.Bool.{false≢true}
use Rattle.std.proofs.lemmas.Slice.Eq.{bytes_eq-Decides}
use Rattle.child_ports.specs.declared.git.GitRow.{GitRow}
use Rattle.child_ports.specs.Git.{NoLineEnd, missing, answer}
use Rattle.child_ports.specs.Framed.{IsFrame, IsFramed, RowFits}
use Rattle.child_ports.specs.MemGitInside.{AreFramed}

pub no_end_append : (xs ys : List ℕ) → NoLineEnd xs → NoLineEnd ys → NoLineEnd (xs ++ ys)
no_end_append [] ys h k = k
no_end_append (x ∷ xs) ys h k = (h.0, no_end_append xs ys h.1 k)

-- a line's one end is its last byte
last_end : (xs f rest : List ℕ) → NoLineEnd xs → xs ++ 10 ∷ [] ≡ f ++ 10 ∷ rest → rest ≡ []
last_end [] [] rest h e = sym (ap (drop 1) e)
last_end [] (y ∷ f) rest h e =
    let size : 0 ≡ length f + suc (length rest) = ap (λ l. length (drop 1 l)) e ∙ length-append f (10 ∷ rest) in absurd (omega arith)
last_end (x ∷ xs) [] rest h e = absurd (h.0 (ap (λ l. get_or l 0 0) e))
last_end (x ∷ xs) (y ∷ f) rest h e = last_end xs f rest h.1 (ap (drop 1) e)

-- each frame ends with a line's end
frame_end : (name frame : List ℕ) → IsFrame name frame → (f : List ℕ) × (frame ≡ f ++ 10 ∷ [])
frame_end name frame (inl is) = (name ++ codes " missing", is ∙ sym (append_assoc name (codes " missing") (10 ∷ [])))
frame_end name frame (inr (inl is)) = (name ++ codes " ambiguous", is ∙ sym (append_assoc name (codes " ambiguous") (10 ∷ [])))
frame_end name frame (inr (inr object)) = (object.digits ++ 32 ∷ object.word ++ 32 ∷ decimal (length object.content) ++ 10 ∷ object.content, object.whole)

no_end_word : NoLineEnd (codes " missing")
no_end_word = (λ e. absurd (omega arith), (λ e. absurd (omega arith), (λ e. absurd (omega arith), (λ e. absurd (omega arith), (λ e. absurd (omega arith), (λ e. absurd (omega arith), (λ e. absurd (omega arith), (λ e. absurd (omega arith), tt))))))))

pub missing_framed : (name : List ℕ) → NoLineEnd name → IsFramed name (missing name)
missing_framed name h = λ front rest split frame.
    let end = frame_end name front frame in
    let line : (name ++ codes " missing") ++ 10 ∷ [] ≡ end.0 ++ 10 ∷ rest =
    append_assoc name (codes " missing") (10 ∷ []) ∙ split ∙ ap (λ l. l ++ rest) end.1 ∙ append_assoc end.0 (10 ∷ []) rest in
    last_end (name ++ codes " missing") end.0 rest (no_end_append name (codes " missing") h no_end_word) line

and_right : (a b : Bool) → (a && b) ≡ true → b ≡ true
and_right true b h = h
and_right false b h = absurd (false≢true h)

choose : (P : List ℕ → Type 0) (b : Bool) (x y : List ℕ) → (b ≡ true → P x) → P y → P (cond b x y)
choose P true x y h k = h refl
choose P false x y h k = k

-- rows that fit answer in frames
pub are_framed : (rows : List GitRow) → AllByRecursion RowFits rows → AreFramed rows
are_framed [] fits dir name ok = missing_framed name ok.one_line
are_framed (row ∷ rows) fits dir name ok =
    choose (IsFramed name) (bytes_eq row.dir dir && bytes_eq row.name name) row.answer (answer rows dir name)
    (λ here. subst (λ n. IsFramed n row.answer) ((bytes_eq-Decides row.name name).0 (and_right (bytes_eq row.dir dir) (bytes_eq row.name name) here)) fits.0.answer)
    (are_framed rows fits.1 dir name ok)
