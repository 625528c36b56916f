-- What follows a datum is shorter.
use Rattle.std.proofs.Common.{◌≡◌, ◌<◌, ◌≤◌, ℕ, Bool, true, false, List, [], ◌∷◌, ◌++◌, length, ap, sym, ◌∙◌, inl, inr, ◌==◌, arith, length-append}
use Rattle.std.proofs.lemmas.Bool.{cases_Bool}
use Rattle.sexp_reader.specs.Grammar.{is_blank, skip, skip_from, IsSymbol, IsNumber, IsDatum, AreData, IsAfterQuote}
use Rattle.sexp_reader.specs.Tree.{Tree, Trees, symbol, text, number, list, none, more}
use Rattle.sexp_reader.proofs.BlankLemmas.{skip_from-again}

pub length-skip_from : (flag : Bool) (bytes : List ℕ) → length (skip_from flag bytes) ≤ length bytes
length-skip_from false [] = omega arith
length-skip_from true [] = omega arith
length-skip_from false (b ∷ bs) = elim (cases_Bool (is_blank b)) [
  | inl blank ↦ rw blank (omega (arith, length-skip_from false bs))
  | inr other ↦ elim (cases_Bool (b == 59)) [
    | inl begins ↦ rw (other, begins) (omega (arith, length-skip_from true bs))
    | inr neither ↦ rw (other, neither) (omega arith)
  ]
]
length-skip_from true (b ∷ bs) = elim (cases_Bool (b == 10)) [
  | inl ends ↦ rw ends (omega (arith, length-skip_from false bs))
  | inr other ↦ rw other (omega (arith, length-skip_from true bs))
]

-- a rest behind at least one byte
behind : (bytes front rest : List ℕ) → skip bytes ≡ front ++ rest → 0 < length front → length rest < length bytes
behind bytes front rest is some = omega (arith, length-skip_from false bytes, ap length is, length-append front rest)

symbol-some : (s : List ℕ) → IsSymbol s → 0 < length s
symbol-some [] never = absurd never
symbol-some (b ∷ bs) is = omega arith

number-some : (n : ℕ) (s : List ℕ) → IsNumber n s → 0 < length s
number-some n [] never = absurd never
number-some n (b ∷ bs) is = omega arith

mutual
  pub shorter-datum : (t : Tree) (bytes rest : List ℕ) → IsDatum t bytes rest → length rest < length bytes
  shorter-datum (symbol s) bytes rest (is, symbol_, end) = behind bytes s rest is (symbol-some s symbol_)
  shorter-datum (text s) bytes rest (written, is, quoted_) =
      omega (arith, length-skip_from false bytes, ap length is, length-append written (34 ∷ rest))
  shorter-datum (number n) bytes rest (digits, is, number_, end) = behind bytes digits rest is (number-some n digits number_)
  shorter-datum (list ts) bytes rest (inl (inside, is, data_)) = omega (arith, length-skip_from false bytes, ap length is, shorter-data ts inside rest data_)
  shorter-datum (list ts) bytes rest (inr (inside, is, after)) = omega (arith, length-skip_from false bytes, ap length is, shorter-after_quote ts inside rest after)

  pub shorter-data : (ts : Trees) (bytes rest : List ℕ) → AreData ts bytes rest → length rest < length bytes
  shorter-data none bytes rest is = omega (arith, length-skip_from false bytes, ap length is)
  shorter-data (more t ts) bytes rest (next, one, others) = omega (arith, shorter-datum t bytes next one, shorter-data ts next rest others)

  pub shorter-after_quote : (ts : Trees) (bytes rest : List ℕ) → IsAfterQuote ts bytes rest → length rest < length bytes
  shorter-after_quote none bytes rest never = absurd never
  shorter-after_quote (more q none) bytes rest never = absurd never
  shorter-after_quote (more q (more t none)) bytes rest (is, one) = shorter-datum t bytes rest one
  shorter-after_quote (more q (more t (more u us))) bytes rest never = absurd never

-- only what stands after blanks and comments counts
pub IsDatum-same : (t : Tree) (bytes whole rest : List ℕ) → skip whole ≡ skip bytes → IsDatum t bytes rest → IsDatum t whole rest
IsDatum-same (symbol s) bytes whole rest same (is, symbol_, end) = (same ∙ is, symbol_, end)
IsDatum-same (text s) bytes whole rest same (written, is, quoted_) = (written, same ∙ is, quoted_)
IsDatum-same (number n) bytes whole rest same (digits, is, number_, end) = (digits, same ∙ is, number_, end)
IsDatum-same (list ts) bytes whole rest same (inl (inside, is, data_)) = inl (inside, same ∙ is, data_)
IsDatum-same (list ts) bytes whole rest same (inr (inside, is, after)) = inr (inside, same ∙ is, after)

pub AreData-same : (ts : Trees) (bytes whole rest : List ℕ) → skip whole ≡ skip bytes → AreData ts bytes rest → AreData ts whole rest
AreData-same none bytes whole rest same is = same ∙ is
AreData-same (more t ts) bytes whole rest same (next, one, others) = (next, IsDatum-same t bytes whole next same one, others)

pub IsDatum-skip : (t : Tree) (bytes rest : List ℕ) → IsDatum t (skip bytes) rest → IsDatum t bytes rest
IsDatum-skip t bytes rest is = IsDatum-same t (skip bytes) bytes rest (sym (skip_from-again false bytes)) is
