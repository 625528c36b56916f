-- Texts up to a place.
use Rattle.std.proofs.Common.{◌≡◌, ◌≢◌, ◌⊎◌, ◌<◌, ◌≤◌, ℕ, Bool, true, false, not, List, [], ◌∷◌, ◌++◌, Some, None, length, drop, ap, sym, ◌∙◌, refl, inl, inr, ◌==◌, append_assoc, arith, subst, length-append}
use Rattle.std.specs.List.{list_all}
use Rattle.std.proofs.lemmas.Bool.{cases_Bool, and_parts, and_cases, eqb-true, eqb-false, false≢true}
use Rattle.sexp_reader.specs.declared.fail.Cause.TheVariants.{Open, Escape}
use Rattle.sexp_reader.specs.Grammar.{escaped, IsQuoted}
use Rattle.sexp_reader.specs.Quoted.{is_plain, EndsPlain, CutsPlain}
use Rattle.sexp_reader.specs.Reading.{Level, fault, quoted, read, after_escape}
use Rattle.sexp_reader.proofs.TextLemmas.{read-quoted, IsQuoted-append}

-- a text that has been read up to a rest
pub record Partly (bytes found rest : List ℕ) : Type 0 where
  pub written : List ℕ
  pub whole : bytes ≡ written ++ rest
  pub is : IsQuoted found written

pub Partly-length : (bytes found rest : List ℕ) → Partly bytes found rest → length rest ≤ length bytes
Partly-length bytes found rest p = omega (arith, ap length p.whole, length-append p.written rest)

pub Partly-start : (bytes : List ℕ) → Partly bytes [] bytes
Partly-start bytes = record { written = []; whole = refl; is = refl }

pub Partly-more : (bytes found rest s part next : List ℕ) → Partly bytes found rest → rest ≡ part ++ next → IsQuoted s part → Partly bytes (found ++ s) next
Partly-more bytes found rest s part next p is more = record {
  written = p.written ++ part;
  whole = p.whole ∙ ap (λ r. p.written ++ r) is ∙ sym (append_assoc p.written part next);
  is = IsQuoted-append found s p.written part p.is more;
}

pub not_false : (b : Bool) → not b ≡ true → b ≡ false
not_false true e = absurd (false≢true e)
not_false false e = refl

pub IsQuoted-plain : (s : List ℕ) → list_all is_plain s ≡ true → IsQuoted s s
IsQuoted-plain [] all = refl
IsQuoted-plain (c ∷ s) all =
    let parts = and_parts (is_plain c) (list_all is_plain s) all in
    let tests = and_parts (not (c == 34)) (not (c == 92)) parts.0 in
    (c ∷ [], s, refl, inl (refl, eqb-false c 34 (not_false (c == 34) tests.0), eqb-false c 92 (not_false (c == 92) tests.1)), IsQuoted-plain s parts.1)

pub IsQuoted-escape : (e c : ℕ) → escaped e ≡ Some c → IsQuoted (c ∷ []) (92 ∷ e ∷ [])
IsQuoted-escape e c is = (92 ∷ e ∷ [], [], refl, inr (e, refl, is), refl)

pub Partly-plain : (bytes found rest plain next : List ℕ) → Partly bytes found rest → CutsPlain rest plain next → Partly bytes (found ++ plain) next
Partly-plain bytes found rest plain next p cut = Partly-more bytes found rest plain plain next p cut.whole (IsQuoted-plain plain cut.each)

not_true : (b : Bool) → not b ≡ false → b ≡ true
not_true true e = refl
not_true false e = absurd (false≢true (sym e))

-- what stands after a run of plain bytes
pub ends_plain : (rest : List ℕ) (b : ℕ) (bs : List ℕ) → EndsPlain rest → rest ≡ b ∷ bs → (b ≡ 34) ⊎ (b ≡ 92)
ends_plain rest b bs end is =
    let here : is_plain b ≡ false = subst EndsPlain is end in
    elim (and_cases (not (b == 34)) (not (b == 92)) here) [ inl e ↦ inl (eqb-true b 34 (not_true (b == 34) e)) | inr e ↦ inr (eqb-true b 92 (not_true (b == 92) e)) ]

-- the byte after a run, where it is no quote
pub is_backslash : (rest : List ℕ) (b : ℕ) → EndsPlain rest → rest ≡ b ∷ drop 1 rest → b ≢ 34 → b ≡ 92
is_backslash rest b end is no_quote = elim (ends_plain rest b (drop 1 rest) end is) [ inl e ↦ absurd (no_quote e) | inr e ↦ e ]

-- a first byte and what follows it
pub first_is : (rest after : List ℕ) (b c : ℕ) → rest ≡ b ∷ drop 1 rest → b ≡ c → after ≡ drop 1 rest → rest ≡ c ∷ after
first_is rest after b c is same next = is ∙ ap (λ x. x ∷ drop 1 rest) same ∙ ap (λ r. c ∷ r) (sym next)

pub escaped-ascii : (b c : ℕ) → escaped b ≡ Some c → b < 128
escaped-ascii b c is = elim (cases_Bool (b == 92)) [
  | inl e ↦ (let x = eqb-true b 92 e in omega arith)
  | inr e1 ↦ elim (cases_Bool (b == 34)) [
    | inl e ↦ (let x = eqb-true b 34 e in omega arith)
    | inr e2 ↦ elim (cases_Bool (b == 110)) [
      | inl e ↦ (let x = eqb-true b 110 e in omega arith)
      | inr e3 ↦ elim (cases_Bool (b == 116)) [
        | inl e ↦ (let x = eqb-true b 116 e in omega arith)
        | inr e4 ↦ (let none : escaped b ≡ None = rw (e1, e2, e3, e4) refl in cc)
      ]
    ]
  ]
]

-- a reading of a text stops
pub stops-open : (bytes found rest so_far : List ℕ) (levels : List Level) → Partly bytes found rest → rest ≡ [] → read (quoted so_far) levels bytes ≡ fault Open []
unfolding read
stops-open bytes found rest so_far levels p is =
    ap (read (quoted so_far) levels) p.whole ∙ read-quoted so_far found p.written levels rest p.is ∙ ap (read (quoted (so_far ++ found)) levels) is

pub stops-open_escape : (bytes found rest so_far : List ℕ) (levels : List Level) → Partly bytes found rest → rest ≡ 92 ∷ [] → read (quoted so_far) levels bytes ≡ fault Open []
unfolding read
stops-open_escape bytes found rest so_far levels p is =
    ap (read (quoted so_far) levels) p.whole ∙ read-quoted so_far found p.written levels rest p.is ∙ ap (read (quoted (so_far ++ found)) levels) is

pub stops-escape : (bytes found rest so_far : List ℕ) (levels : List Level) (b : ℕ) (bs : List ℕ) → Partly bytes found rest → rest ≡ 92 ∷ b ∷ bs → escaped b ≡ None → read (quoted so_far) levels bytes ≡ fault Escape (b ∷ bs)
unfolding read
stops-escape bytes found rest so_far levels b bs p is none =
    ap (read (quoted so_far) levels) p.whole ∙ read-quoted so_far found p.written levels rest p.is ∙ ap (read (quoted (so_far ++ found)) levels) is
    ∙ ap (λ o. after_escape o (b ∷ bs) (λ c. read (quoted ((so_far ++ found) ++ c)) levels bs)) none
