-- What an inner fault is to the caller.
use Rattle.std.proofs.Common.{◌≡◌, ◌≢◌, ◌<◌, ◌≤◌, ◌+◌, ℕ, Bool, true, false, List, [], ◌∷◌, length, drop, slice_index, Err, ap, sym, ◌∙◌, refl, inl, inr, ◌==◌, arith, subst}
use Rattle.std.proofs.lemmas.Bool.{cases_Bool, eqb-false}
use Rattle.sexp_reader.specs.declared.fail.ReadFail.{ReadFail}
use Rattle.sexp_reader.specs.declared.fail.ReadFail.TheVariants as fails
use Rattle.sexp_reader.specs.Descent.{Begins, Stops, ReadsDatum, ReadsData, ReadsLone}
use Rattle.sexp_reader.specs.Grammar.{is_blank, skip, skip_from}
use Rattle.sexp_reader.specs.Quoted.{ReadsText}
use Rattle.sexp_reader.specs.Reading.{listed, quoting}
use Rattle.sexp_reader.specs.Token.{Cuts, IsTokens}
use Rattle.sexp_reader.specs.Tree.{Tree}
use Rattle.sexp_reader.proofs.DescentLemmas.{Listing, Listing-stops, stops-text, stops-inside, stops-token, stops-skipped, begins-cell}

pub exit-text : (level : ℕ) (bytes after : List ℕ) (e : ReadFail) → bytes ≡ 34 ∷ after → ReadsText after (Err e) → ReadsDatum level bytes (Err e)
exit-text level bytes after fails.Memory is stops = tt
exit-text level bytes after (fails.Fault cause left) is stops = λ levels count. stops-text bytes after levels cause left is (stops [] levels)

pub exit-data : (level : ℕ) (bytes after : List ℕ) (e : ReadFail) → bytes ≡ 40 ∷ after → level ≤ 128 → level ≢ 128 → ReadsData (level + 1) after (Err e) → ReadsDatum level bytes (Err e)
exit-data level bytes after fails.Memory is low room stops = tt
exit-data level bytes after (fails.Fault cause left) is low room stops = λ levels count.
    stops-inside bytes after levels 40 (listed []) cause left is refl (omega arith) (stops levels (omega arith))

pub exit-lone : (level : ℕ) (bytes after : List ℕ) (e : ReadFail) → bytes ≡ 39 ∷ after → level ≤ 128 → level ≢ 128 → ReadsLone (level + 1) after (Err e) → ReadsDatum level bytes (Err e)
exit-lone level bytes after fails.Memory is low room stops = tt
exit-lone level bytes after (fails.Fault cause left) is low room stops = λ levels count.
    stops-inside bytes after levels 39 quoting cause left is refl (omega arith) (stops (quoting ∷ levels) (omega arith) tt)

pub exit-token : (level : ℕ) (bytes token rest : List ℕ) (e : ReadFail) → Cuts bytes token rest → 0 < length token → slice_index bytes 0 ≢ 39 → IsTokens token (length bytes) (Err e) → ReadsDatum level bytes (Err e)
exit-token level bytes token rest fails.Memory cut some no_quote is = tt
exit-token level bytes token rest (fails.Fault cause left) cut some no_quote (is, same) = λ levels count.
    subst (Stops levels bytes cause) (sym same) (stops-token bytes token rest levels cause cut some no_quote is)

pub exit-item : (level : ℕ) (bytes : List ℕ) (xs : List Tree) (rest next : List ℕ) (e : ReadFail) → Listing level bytes xs rest → next ≡ skip rest → ReadsDatum level next (Err e) → ReadsData level bytes (Err e)
exit-item level bytes xs rest next fails.Memory l is stops = tt
exit-item level bytes xs rest next (fails.Fault cause left) l is stops = λ levels count.
    Listing-stops level bytes xs rest levels cause left l count
    (stops-skipped rest (listed xs ∷ levels) cause left (subst (λ b. Stops (listed xs ∷ levels) b cause left) is (stops (listed xs ∷ levels) (omega arith))))

pub exit-datum : (level : ℕ) (bytes next : List ℕ) (e : ReadFail) → next ≡ skip bytes → ReadsDatum level next (Err e) → ReadsLone level bytes (Err e)
exit-datum level bytes next fails.Memory is stops = tt
exit-datum level bytes next (fails.Fault cause left) is stops = λ levels count lone.
    stops-skipped bytes levels cause left (subst (λ b. Stops levels b cause left) is (stops levels count))

-- what skip leaves begins with no blank and no comment
skip-head : (flag : Bool) (bytes : List ℕ) (b : ℕ) (bs : List ℕ) → skip_from flag bytes ≡ b ∷ bs → (is_blank b ≡ false) × (b ≢ 59)
skip-head false [] b bs is = absurd (cc)
skip-head true [] b bs is = absurd (cc)
skip-head false (c ∷ cs) b bs is = elim (cases_Bool (is_blank c)) [
  | inl blank ↦ (let same : skip_from false (c ∷ cs) ≡ skip_from false cs = rw blank refl in skip-head false cs b bs (sym same ∙ is))
  | inr other ↦ elim (cases_Bool (c == 59)) [
    | inl begins ↦ (let same : skip_from false (c ∷ cs) ≡ skip_from true cs = rw (other, begins) refl in skip-head true cs b bs (sym same ∙ is))
    | inr neither ↦
        (let same : skip_from false (c ∷ cs) ≡ c ∷ cs = rw (other, neither) refl in
        let head : c ≡ b = cc in
        (ap is_blank (sym head) ∙ other, λ e. eqb-false c 59 neither (head ∙ e)))
  ]
]
skip-head true (c ∷ cs) b bs is = elim (cases_Bool (c == 10)) [
  | inl ends ↦ (let same : skip_from true (c ∷ cs) ≡ skip_from false cs = rw ends refl in skip-head false cs b bs (sym same ∙ is))
  | inr other ↦ (let same : skip_from true (c ∷ cs) ≡ skip_from true cs = rw other refl in skip-head true cs b bs (sym same ∙ is))
]

pub Begins-skipped : (bytes next : List ℕ) (b : ℕ) → next ≡ skip bytes → next ≡ b ∷ drop 1 next → b ≢ 41 → Begins next
Begins-skipped bytes next b skipped is no_close =
    let head = skip-head false bytes b (drop 1 next) (sym skipped ∙ is) in
    subst Begins (sym is) (head.0, head.1, no_close)

-- the first byte of a datum, as the code tests it
pub tested : (bytes got : List ℕ) (b : ℕ) → got ≡ bytes → slice_index got 0 ≡ b → slice_index bytes 0 ≡ b
tested bytes got b same is = ap (λ x. slice_index x 0) (sym same) ∙ is

pub cell : (bytes got after : List ℕ) (b : ℕ) → Begins bytes → got ≡ bytes → slice_index got 0 ≡ b → after ≡ drop 1 bytes → bytes ≡ b ∷ after
cell bytes got after b begins same is next = begins-cell bytes b begins (tested bytes got b same is) ∙ ap (λ r. b ∷ r) (sym next)
