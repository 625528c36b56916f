-- Texts as the code reads them.
use Rattle.std.specs.Prelude.{◌≡◌, ◌≤◌, ℕ, Bool, true, false, ◌&&◌, not, ◌==◌, Option, Some, None, Result, Ok, Err, List, [], ◌∷◌, ◌++◌, length}
use Rattle.std.specs.List.{list_all}
use Rattle.std.specs.Str.{IsUtf8}
use Rattle.std.specs.Borrow.{Bor}
use Rattle.sexp_reader.specs.declared.fail.ReadFail.{ReadFail}
use Rattle.sexp_reader.specs.declared.fail.ReadFail.TheVariants as fails
use Rattle.sexp_reader.specs.Grammar.{quote_mark, backslash, escaped, IsQuoted}
use Rattle.sexp_reader.specs.Reading.{Level, fault, read, quoted}

-- a byte that stands for itself
abbrev pub is_plain : ℕ → Bool
is_plain b = not (b == quote_mark) && not (b == backslash)

-- a run of plain bytes ends before this
abbrev pub EndsPlain : List ℕ → Type 0
EndsPlain [] = Unit {0}
EndsPlain (b ∷ bs) = is_plain b ≡ false

-- the bytes are a run of plain ones, and a rest that no longer run has
pub record CutsPlain (bytes plain rest : List ℕ) : Type 0 where
  pub whole : bytes ≡ plain ++ rest
  pub each : list_all is_plain plain ≡ true
  pub end : EndsPlain rest

-- what the code finds for a letter after a backslash is what it stands for
abbrev pub StandsFor : ℕ → Option (Bor (List ℕ)) → Type 0
StandsFor b None = escaped b ≡ None
StandsFor b (Some part) = (c : ℕ) × (escaped b ≡ Some c) × (part.now ≡ c ∷ [])

-- The text up to its last quote and what follows, or the fault that a reading in a text meets.
abbrev pub ReadsText : List ℕ → Result (List ℕ × Bor (List ℕ)) ReadFail → Type 0
ReadsText bytes (Ok x) = IsUtf8 x.1.now × ((written : List ℕ) × (bytes ≡ written ++ quote_mark ∷ x.1.now) × IsQuoted x.0 written)
ReadsText bytes (Err fails.Memory) = Unit {0}
ReadsText bytes (Err (fails.Fault cause left)) = (so_far : List ℕ) (levels : List Level) →
    (here : List ℕ) × (read (quoted so_far) levels bytes ≡ fault cause here) × (length here ≡ left) × (left ≤ length bytes)
