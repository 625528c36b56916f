-- The first datum of bytes.
use Rattle.std.proofs.Common.{◌≡◌, ◌↔◌, ◌-◌, ℕ, false, List, [], length, Result, Ok, Err, Option, Some, None, ap, sym, ◌∙◌, refl, inl, inr, arith, subst}
use Rattle.std.specs.Borrow.{Bor}
use Rattle.sexp_reader.specs.declared.datum.Datum.{Datum}
use Rattle.sexp_reader.specs.declared.fail.ReadFail.{ReadFail}
use Rattle.sexp_reader.specs.declared.fail.ReadFail.TheVariants as fails
use Rattle.std.specs.Str.{IsUtf8, is_utf8}
use Rattle.std.specs.Str.Lossy.{utf8_valid_len}
use Rattle.std.proofs.lemmas.Bool.{cases_Bool}
use Rattle.std.proofs.lemmas.Str.{is_utf8-from_IsUtf8, IsUtf8-from_is_utf8}
use Rattle.sexp_reader.specs.declared.fail.SexpFail.{SexpFail}
use Rattle.sexp_reader.specs.declared.fail.SexpFail.TheVariants as fail
use Rattle.sexp_reader.specs.declared.fail.Cause.{Cause}
use Rattle.sexp_reader.specs.Descent.{Stops, ReadsLone}
use Rattle.sexp_reader.specs.Fail.{fail_at}
use Rattle.std.specs.Prelude.{IfOk, IfSome}
use Rattle.sexp_reader.specs.Grammar.{skip, IsDatum, StandsFirst, IsFirst, IsEmpty}
use Rattle.sexp_reader.specs.Spelling.{IsPrintable}
use Rattle.sexp_reader.specs.Reading.{Reading, nothing, first, fault, read, between, placed, first_datum, Gives}
use Rattle.sexp_reader.specs.Tree.{Tree, tree}
use Rattle.sexp_reader.proofs.BlankLemmas.{read-skip_from}
use Rattle.sexp_reader.proofs.CompleteLemmas.{read-datum}
use Rattle.sexp_reader.proofs.SoundLemmas.{Goes, read-goes}
use Rattle.sexp_reader.proofs.SpellingLemmas.{printable-first}

pub first_datum-utf8 : (bytes : List ℕ) → IsUtf8 bytes → first_datum bytes ≡ placed (length bytes) (read between [] bytes)
unfolding first_datum
first_datum-utf8 bytes utf8 = rw (is_utf8-from_IsUtf8 bytes utf8) refl

pub first_datum-not_utf8 : (bytes : List ℕ) → (IsUtf8 bytes → ⊥) → first_datum bytes ≡ Err (fail.NotUtf8 (utf8_valid_len bytes))
unfolding first_datum
first_datum-not_utf8 bytes bad = elim (cases_Bool (is_utf8 bytes)) [
  | inl good ↦ absurd (bad (IsUtf8-from_is_utf8 bytes good))
  | inr other ↦ rw other refl
]

-- what stands first is read
pub read-first : (bytes rest : List ℕ) (t : Tree) → StandsFirst bytes t rest → read between [] bytes ≡ first t rest
read-first bytes rest t (is, low) = read-datum t bytes rest [] is (omega arith)

pub first_datum-first : (bytes rest : List ℕ) (t : Tree) → IsUtf8 bytes → StandsFirst bytes t rest → first_datum bytes ≡ Ok (Some t)
first_datum-first bytes rest t utf8 stands = first_datum-utf8 bytes utf8 ∙ ap (placed (length bytes)) (read-first bytes rest t stands)

pub first_datum-nothing : (bytes : List ℕ) → IsUtf8 bytes → skip bytes ≡ [] → first_datum bytes ≡ Ok None
unfolding read
first_datum-nothing bytes utf8 is = first_datum-utf8 bytes utf8 ∙ ap (placed (length bytes)) (read-skip_from [] false bytes ∙ ap (read between []) is)

pub first_datum-fault : (bytes : List ℕ) (cause : Cause) (left : ℕ) → IsUtf8 bytes → Stops [] bytes cause left → first_datum bytes ≡ Err (fail_at cause (length bytes - left))
first_datum-fault bytes cause left utf8 (here, stops, count, low) =
    first_datum-utf8 bytes utf8 ∙ ap (placed (length bytes)) stops ∙ ap (λ n. Err (fail_at cause (length bytes - n))) count

-- what the datum outside any list says of the whole
pub lone-stops : (bytes chars : List ℕ) (r : Result (Option (Datum × Bor (List ℕ))) ReadFail) (cause : Cause) (left : ℕ) → chars ≡ bytes → ReadsLone 0 chars r → r ≡ Err (fails.Fault cause left) → Stops [] bytes cause left
lone-stops bytes chars r cause left same reads is =
    let stops = subst (ReadsLone 0 chars) is reads in
    subst (λ b. Stops [] b cause left) same (stops [] refl tt)

pub lone-stands : (bytes chars : List ℕ) (r : Result (Option (Datum × Bor (List ℕ))) ReadFail) (d : Datum) (rest : Bor (List ℕ)) → chars ≡ bytes → ReadsLone 0 chars r → r ≡ Ok (Some (d, rest)) → StandsFirst bytes (tree d) rest.now
lone-stands bytes chars r d rest same reads is =
    let found = subst (ReadsLone 0 chars) is reads in
    (subst (λ b. IsDatum (tree d) b rest.now) same found.0, omega (arith, found.1))

pub lone-nothing : (bytes chars : List ℕ) (r : Result (Option (Datum × Bor (List ℕ))) ReadFail) → chars ≡ bytes → ReadsLone 0 chars r → r ≡ Ok None → skip bytes ≡ []
lone-nothing bytes chars r same reads is =
    let found : skip chars ≡ [] = subst (ReadsLone 0 chars) is reads in
    subst (λ b. skip b ≡ []) same found

-- ---- the reading and the grammar

found-utf8 : (bytes : List ℕ) (found : Option Tree) → first_datum bytes ≡ Ok found → IsUtf8 bytes
unfolding first_datum
found-utf8 bytes found is = elim (cases_Bool (is_utf8 bytes)) [
  | inl good ↦ IsUtf8-from_is_utf8 bytes good
  | inr bad ↦ (let fault : first_datum bytes ≡ Err (fail.NotUtf8 (utf8_valid_len bytes)) = rw bad refl in absurd (cc))
]

first-from_placed : (len : ℕ) (bytes : List ℕ) (r : Reading) (t : Tree) → Goes [] bytes r → placed len r ≡ Ok (Some t) → (rest : List ℕ) × StandsFirst bytes t rest
first-from_placed len bytes nothing t goes is = absurd (cc)
first-from_placed len bytes (first t' rest) t goes is = let same : t' ≡ t = cc in (rest, subst (λ x. StandsFirst bytes x rest) same goes)
first-from_placed len bytes (fault cause here) t goes is = absurd (cc)

empty-from_placed : (len : ℕ) (bytes : List ℕ) (r : Reading) → Goes [] bytes r → placed len r ≡ Ok None → skip bytes ≡ []
empty-from_placed len bytes nothing goes is = goes.1
empty-from_placed len bytes (first t rest) goes is = absurd (cc)
empty-from_placed len bytes (fault cause here) goes is = absurd (cc)

pub first_datum-is_first : (bytes : List ℕ) (t : Tree) → (first_datum bytes ≡ Ok (Some t)) ↔ IsFirst bytes t
first_datum-is_first bytes t = (
  λ is.
      let utf8 = found-utf8 bytes (Some t) is in
      (utf8, first-from_placed (length bytes) bytes (read between [] bytes) t (read-goes bytes (read between [] bytes) refl) (sym (first_datum-utf8 bytes utf8) ∙ is)),
  λ (utf8, (rest, stands)). first_datum-first bytes rest t utf8 stands,
)

pub first_datum-is_empty : (bytes : List ℕ) → (first_datum bytes ≡ Ok None) ↔ IsEmpty bytes
first_datum-is_empty bytes = (
  λ is.
      let utf8 = found-utf8 bytes None is in
      (utf8, empty-from_placed (length bytes) bytes (read between [] bytes) (read-goes bytes (read between [] bytes) refl) (sym (first_datum-utf8 bytes utf8) ∙ is)),
  λ (utf8, is). first_datum-nothing bytes utf8 is,
)

-- what was read can be printed
pub printable-read : (result : Result (Option Datum) SexpFail) (bytes : List ℕ) → Gives result (first_datum bytes) → IfOk result (λ found. IfSome found (λ d. IsPrintable (tree d)))
printable-read (Ok None) bytes gives = tt
printable-read (Ok (Some d)) bytes gives =
    let first = (first_datum-is_first bytes (tree d)).0 gives in
    printable-first (tree d) bytes first.1.0 first.1.1
printable-read (Err e) bytes gives = tt
