-- What is printed stands first, and so is read again.
use Rattle.std.proofs.Common.{◌≡◌, ◌<◌, ◌^◌, ℕ, true, List, [], ◌∷◌, ◌++◌, length, decimal, ap, sym, ◌∙◌, refl, inl, inr, ◌==◌, append-nil, append_assoc, arith, subst}
use Rattle.std.specs.List.{list_all, flat_map}
use Rattle.std.specs.Str.Parse.{digits_value}
use Rattle.std.proofs.lemmas.Bool.{cases_Bool, and_parts, or_parts, eqb-true, eqb-false}
use Rattle.std.proofs.lemmas.Fmt.{digits_decimal, digits_value-decimal, decimal_nonempty}
use Rattle.sexp_reader.specs.Grammar.{is_blank, is_refused, ends_token, in_token, all_digits, EndsToken, skip, IsWritten, IsQuoted, IsSymbol, IsNumber, IsDatum, AreData, IsAfterQuote, StandsFirst, quote_symbol}
use Rattle.sexp_reader.specs.Spelling.{written, spelling, spellings, HasSymbols, AllHaveSymbols, NumbersFit, AllNumbersFit, IsPrintable}
use Rattle.sexp_reader.specs.Tree.{Tree, Trees, symbol, text, number, list, none, more}
use Rattle.sexp_reader.proofs.CompleteLemmas.{digits-in_token}
use Rattle.sexp_reader.proofs.NumberLemmas.{own}
use Rattle.sexp_reader.proofs.TokenLemmas.{not_true}

-- a byte that is written so is read so
IsWritten-written : (c : ℕ) → IsWritten c (written c)
IsWritten-written c = elim (cases_Bool (c == 92)) [
  | inl e ↦ (let is = eqb-true c 92 e in subst (λ x. IsWritten x (written x)) (sym is) (inr (92, refl, refl)))
  | inr e1 ↦ elim (cases_Bool (c == 34)) [
    | inl e ↦ (let is = eqb-true c 34 e in subst (λ x. IsWritten x (written x)) (sym is) (inr (34, refl, refl)))
    | inr e2 ↦ elim (cases_Bool (c == 10)) [
      | inl e ↦ (let is = eqb-true c 10 e in subst (λ x. IsWritten x (written x)) (sym is) (inr (110, refl, refl)))
      | inr e3 ↦ elim (cases_Bool (c == 9)) [
        | inl e ↦ (let is = eqb-true c 9 e in subst (λ x. IsWritten x (written x)) (sym is) (inr (116, refl, refl)))
        | inr e4 ↦
            (let plain : written c ≡ c ∷ [] = rw (e1, e2, e3, e4) refl in
            inl (plain, eqb-false c 34 e2, eqb-false c 92 e1))
      ]
    ]
  ]
]

IsQuoted-written : (s : List ℕ) → IsQuoted s (flat_map written s)
IsQuoted-written [] = refl
IsQuoted-written (c ∷ s) = (written c, flat_map written s, refl, IsWritten-written c, IsQuoted-written s)

-- a token has no blank and no comment before it
skip-token : (b : ℕ) (bs : List ℕ) → in_token b ≡ true → skip (b ∷ bs) ≡ b ∷ bs
skip-token b bs inside =
    let a = or_parts _ (is_refused b) (not_true (ends_token b) inside) in
    let a59 = or_parts _ (b == 59) a.0 in
    let a34 = or_parts _ (b == 34) a59.0 in
    let a41 = or_parts _ (b == 41) a34.0 in
    let a40 = or_parts (is_blank b) (b == 40) a41.0 in
    rw (a40.0, a59.1) refl

IsNumber-decimal : (n : ℕ) (ds : List ℕ) → n < 2 ^ 64 → decimal n ≡ ds → IsNumber n ds
IsNumber-decimal n [] fits is = absurd (omega (arith, decimal_nonempty n fits, ap length is))
IsNumber-decimal n (d ∷ ds) fits is =
    (subst (λ x. all_digits x ≡ true) is (digits_decimal own n fits), ap (digits_value 10) (sym is) ∙ digits_value-decimal own n fits, fits)

skip-symbol : (s rest : List ℕ) → IsSymbol s → skip (s ++ rest) ≡ s ++ rest
skip-symbol [] rest never = absurd never
skip-symbol (b ∷ bs) rest is = skip-token b (bs ++ rest) (and_parts (in_token b) (list_all in_token bs) is.0).0

skip-number : (n : ℕ) (s rest : List ℕ) → IsNumber n s → skip (s ++ rest) ≡ s ++ rest
skip-number n [] rest never = absurd never
skip-number n (b ∷ bs) rest is =
    skip-token b (bs ++ rest) (and_parts (in_token b) (list_all in_token bs) (digits-in_token (b ∷ bs) is.0)).0

ends-spellings : (ts : Trees) (rest : List ℕ) → EndsToken (spellings ts ++ 41 ∷ rest)
ends-spellings none rest = refl
ends-spellings (more t ts) rest = refl

-- a space before a datum
after_space : (t : Tree) (bytes rest : List ℕ) → IsDatum t bytes rest → IsDatum t (32 ∷ bytes) rest
after_space (symbol s) bytes rest is = is
after_space (text s) bytes rest is = is
after_space (number n) bytes rest is = is
after_space (list ts) bytes rest is = is

mutual
  pub datum-spelling : (t : Tree) (rest : List ℕ) → HasSymbols t → NumbersFit t → EndsToken rest → IsDatum t (spelling t ++ rest) rest
  datum-spelling (symbol s) rest symbols fits end = (skip-symbol s rest symbols, symbols, end)
  datum-spelling (text s) rest symbols fits end = (flat_map written s, ap (λ r. 34 ∷ r) (append_assoc (flat_map written s) (34 ∷ []) rest), IsQuoted-written s)
  datum-spelling (number n) rest symbols fits end =
      (decimal n, skip-number n (decimal n) rest (IsNumber-decimal n (decimal n) fits refl), IsNumber-decimal n (decimal n) fits refl, end)
  datum-spelling (list none) rest symbols fits end = inl (41 ∷ rest, refl, refl)
  datum-spelling (list (more t ts)) rest symbols fits end =
      inl (
        (spelling t ++ spellings ts ++ 41 ∷ []) ++ rest,
        refl,
        (
          spellings ts ++ 41 ∷ rest,
          subst (λ b. IsDatum t b (spellings ts ++ 41 ∷ rest)) (sym (append_assoc (spelling t ++ spellings ts) (41 ∷ []) rest ∙ append_assoc (spelling t) (spellings ts) (41 ∷ rest))) (datum-spelling t (spellings ts ++ 41 ∷ rest) symbols.0 fits.0 (ends-spellings ts rest)),
          data-spellings ts rest symbols.1 fits.1,
        ),
      )

  pub data-spellings : (ts : Trees) (rest : List ℕ) → AllHaveSymbols ts → AllNumbersFit ts → AreData ts (spellings ts ++ 41 ∷ rest) rest
  data-spellings none rest symbols fits = refl
  data-spellings (more t ts) rest symbols fits = (
    spellings ts ++ 41 ∷ rest,
    after_space t ((spelling t ++ spellings ts) ++ 41 ∷ rest) (spellings ts ++ 41 ∷ rest)
        (subst (λ b. IsDatum t b (spellings ts ++ 41 ∷ rest)) (sym (append_assoc (spelling t) (spellings ts) (41 ∷ rest))) (datum-spelling t (spellings ts ++ 41 ∷ rest) symbols.0 fits.0 (ends-spellings ts rest))),
    data-spellings ts rest symbols.1 fits.1,
  )

-- what is printed stands first in itself
pub first-spelling : (t : Tree) → IsPrintable t → NumbersFit t → StandsFirst (spelling t) t []
first-spelling t (symbols, low) fits = (subst (λ b. IsDatum t b []) (append-nil (spelling t)) (datum-spelling t [] symbols fits tt), low)

quote-symbol : HasSymbols quote_symbol
quote-symbol = (refl, λ e. absurd (cc), refl, λ e. absurd (cc))

-- the symbols of what was read are tokens
mutual
  pub symbols-datum : (t : Tree) (bytes rest : List ℕ) → IsDatum t bytes rest → HasSymbols t
  symbols-datum (symbol s) bytes rest (is, symbol_, end) = symbol_
  symbols-datum (text s) bytes rest is = tt
  symbols-datum (number n) bytes rest is = tt
  symbols-datum (list ts) bytes rest (inl (inside, is, data_)) = symbols-data ts inside rest data_
  symbols-datum (list ts) bytes rest (inr (inside, is, after)) = symbols-after_quote ts inside rest after

  pub symbols-data : (ts : Trees) (bytes rest : List ℕ) → AreData ts bytes rest → AllHaveSymbols ts
  symbols-data none bytes rest is = tt
  symbols-data (more t ts) bytes rest (next, one, others) = (symbols-datum t bytes next one, symbols-data ts next rest others)

  pub symbols-after_quote : (ts : Trees) (bytes rest : List ℕ) → IsAfterQuote ts bytes rest → AllHaveSymbols ts
  symbols-after_quote none bytes rest never = absurd never
  symbols-after_quote (more q none) bytes rest never = absurd never
  symbols-after_quote (more q (more t none)) bytes rest (is, one) = (subst HasSymbols (sym is) quote-symbol, (symbols-datum t bytes rest one, tt))
  symbols-after_quote (more q (more t (more u us))) bytes rest never = absurd never

pub printable-first : (t : Tree) (bytes rest : List ℕ) → StandsFirst bytes t rest → IsPrintable t
printable-first t bytes rest first = (symbols-datum t bytes rest first.0, first.1)
