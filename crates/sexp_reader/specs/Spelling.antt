-- How a tree is printed.
use Rattle.std.specs.Prelude.{◌≡◌, ℕ, Bool, true, false, not, ◌&&◌, ◌≤◌, ◌<◌, ◌^◌, ◌==◌, if◌then◌else◌, decimal, List, [], ◌∷◌, ◌++◌}
use Rattle.std.specs.List.{flat_map, list_all}
use Rattle.sexp_reader.specs.Grammar.{line_feed, quote_mark, opening, closing, backslash, IsSymbol}
use Rattle.sexp_reader.specs.Tree.{Tree, Trees, symbol, text, number, list, none, more, depth_of}

-- a byte of a text, written
abbrev pub written : ℕ → List ℕ
written c = if c == backslash then backslash ∷ backslash ∷ [] else (if c == quote_mark then backslash ∷ quote_mark ∷ [] else (if c == line_feed then backslash ∷ 110 ∷ [] else (if c == 9 then backslash ∷ 116 ∷ [] else c ∷ [])))

-- a byte of a text that is written as itself
abbrev pub is_literal : ℕ → Bool
is_literal c = not (c == backslash) && not (c == quote_mark) && not (c == line_feed) && not (c == 9)

-- a run of such bytes ends before this
abbrev pub EndsLiteral : List ℕ → Type 0
EndsLiteral [] = Unit {0}
EndsLiteral (b ∷ bs) = is_literal b ≡ false

-- the bytes are a run that is written as itself, and a rest that no longer run has
pub record CutsLiteral (bytes literal rest : List ℕ) : Type 0 where
  pub whole : bytes ≡ literal ++ rest
  pub each : list_all is_literal literal ≡ true
  pub end : EndsLiteral rest

-- a text in quotes
abbrev pub quoted_spelling : List ℕ → List ℕ
quoted_spelling s = quote_mark ∷ flat_map written s ++ quote_mark ∷ []

-- a symbol as it is, a number in decimal, a text in quotes, a list in brackets with one space between its data
abbrev mutual
  pub spelling : Tree → List ℕ
  spelling (symbol s) = s
  spelling (text s) = quoted_spelling s
  spelling (number n) = decimal n
  spelling (list none) = opening ∷ closing ∷ []
  spelling (list (more t ts)) = opening ∷ spelling t ++ spellings ts ++ closing ∷ []

  -- each with a space before it
  pub spellings : Trees → List ℕ
  spellings none = []
  spellings (more t ts) = 32 ∷ spelling t ++ spellings ts

-- the symbols are tokens
abbrev mutual
  pub HasSymbols : Tree → Type 0
  HasSymbols (symbol s) = IsSymbol s
  HasSymbols (text s) = Unit {0}
  HasSymbols (number n) = Unit {0}
  HasSymbols (list ts) = AllHaveSymbols ts

  pub AllHaveSymbols : Trees → Type 0
  AllHaveSymbols none = Unit {0}
  AllHaveSymbols (more t ts) = HasSymbols t × AllHaveSymbols ts

-- the numbers have 64 bits
abbrev mutual
  pub NumbersFit : Tree → Type 0
  NumbersFit (symbol s) = Unit {0}
  NumbersFit (text s) = Unit {0}
  NumbersFit (number n) = n < 2 ^ 64
  NumbersFit (list ts) = AllNumbersFit ts

  pub AllNumbersFit : Trees → Type 0
  AllNumbersFit none = Unit {0}
  AllNumbersFit (more t ts) = NumbersFit t × AllNumbersFit ts

-- what print takes: its symbols are tokens, and there are at most 128 levels
abbrev pub IsPrintable : Tree → Type 0
IsPrintable t = HasSymbols t × (depth_of t ≤ 128)
