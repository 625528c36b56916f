-- The grammar of data, as a relation by cases between a text, a tree and what follows it.
use Rattle.std.specs.Prelude.{◌≡◌, ◌≢◌, ◌⊎◌, ℕ, ◌<◌, ◌≤◌, ◌^◌, Bool, true, false, not, ◌||◌, ◌==◌, if◌then◌else◌, Option, Some, None, List, [], ◌∷◌, ◌++◌, codes}
use Rattle.std.specs.List.{list_all}
use Rattle.std.specs.Char.{is_ascii_digit}
use Rattle.std.specs.Str.{IsUtf8}
use Rattle.std.specs.Str.Parse.{digits_value}
use Rattle.sexp_reader.specs.Tree.{Tree, Trees, symbol, text, number, list, none, more, depth_of}

-- the bytes that mean more than themselves
abbrev pub line_feed : ℕ
line_feed = 10

abbrev pub quote_mark : ℕ
quote_mark = 34

abbrev pub apostrophe : ℕ
apostrophe = 39

abbrev pub opening : ℕ
opening = 40

abbrev pub closing : ℕ
closing = 41

abbrev pub dot : ℕ
dot = 46

abbrev pub semicolon : ℕ
semicolon = 59

abbrev pub backslash : ℕ
backslash = 92

-- space, tab, LF, FF and CR
abbrev pub is_blank : ℕ → Bool
is_blank b = b == 32 || b == 9 || b == 10 || b == 12 || b == 13

-- # ` , [ ] { } |
abbrev pub is_refused : ℕ → Bool
is_refused b = b == 35 || b == 96 || b == 44 || b == 91 || b == 93 || b == 123 || b == 125 || b == 124

-- no byte of a token: a blank, a bracket, a quote, the beginning of a comment, or refused
abbrev pub ends_token : ℕ → Bool
ends_token b = is_blank b || b == opening || b == closing || b == quote_mark || b == semicolon || is_refused b

-- a byte of a token
abbrev pub in_token : ℕ → Bool
in_token b = not (ends_token b)

-- a token ends before this
abbrev pub EndsToken : List ℕ → Type 0
EndsToken [] = Unit {0}
EndsToken (b ∷ bs) = ends_token b ≡ true

-- what is left after white space and comments; the flag says whether a comment has begun
abbrev pub skip_from : Bool → List ℕ → List ℕ
skip_from false [] = []
skip_from false (b ∷ bs) = if is_blank b then skip_from false bs else (if b == semicolon then skip_from true bs else b ∷ bs)
skip_from true [] = []
skip_from true (b ∷ bs) = if b == line_feed then skip_from false bs else skip_from true bs

-- what is left after the white space and the comments that stand first
abbrev pub skip : List ℕ → List ℕ
skip bytes = skip_from false bytes

-- what a letter after a backslash stands for: `\\`, `\"`, `\n` (110) and `\t` (116)
abbrev pub escaped : ℕ → Option ℕ
escaped b = if b == backslash then Some backslash else (if b == quote_mark then Some quote_mark else (if b == 110 then Some line_feed else (if b == 116 then Some 9 else None)))

-- a byte of a text, and how it is written
abbrev pub IsWritten : ℕ → List ℕ → Type 0
IsWritten c part = ((part ≡ c ∷ []) × (c ≢ quote_mark) × (c ≢ backslash)) ⊎ ((e : ℕ) × (part ≡ backslash ∷ e ∷ []) × (escaped e ≡ Some c))

-- a text, and what stands between the quotes for it
abbrev pub IsQuoted : List ℕ → List ℕ → Type 0
IsQuoted [] written = written ≡ []
IsQuoted (c ∷ cs) written = (part rest : List ℕ) × (written ≡ part ++ rest) × IsWritten c part × IsQuoted cs rest

-- decimal digits alone
abbrev pub all_digits : List ℕ → Bool
all_digits bytes = list_all is_ascii_digit bytes

-- a token of decimal digits, and its number
abbrev pub IsNumber : ℕ → List ℕ → Type 0
IsNumber n [] = ⊥
IsNumber n (b ∷ bs) = (all_digits (b ∷ bs) ≡ true) × (digits_value 10 (b ∷ bs) ≡ n) × (n < 2 ^ 64)

-- a token that isn't a number, and isn't `.`: its first byte is no apostrophe
abbrev pub IsSymbol : List ℕ → Type 0
IsSymbol [] = ⊥
IsSymbol (b ∷ bs) = (list_all in_token (b ∷ bs) ≡ true) × (b ≢ apostrophe) × (all_digits (b ∷ bs) ≡ false) × (b ∷ bs ≢ dot ∷ [])

-- the symbol that `'` stands for
abbrev pub quote_symbol : Tree
quote_symbol = symbol (codes "quote")

abbrev mutual
  -- the bytes are white space and comments, then the tree's datum, then the rest
  pub IsDatum : Tree → List ℕ → List ℕ → Type 0
  IsDatum (symbol s) bytes rest = (skip bytes ≡ s ++ rest) × IsSymbol s × EndsToken rest
  IsDatum (text s) bytes rest = (written : List ℕ) × (skip bytes ≡ quote_mark ∷ written ++ quote_mark ∷ rest) × IsQuoted s written
  IsDatum (number n) bytes rest = (digits : List ℕ) × (skip bytes ≡ digits ++ rest) × IsNumber n digits × EndsToken rest
  IsDatum (list ts) bytes rest = ((inside : List ℕ) × (skip bytes ≡ opening ∷ inside) × AreData ts inside rest) ⊎ ((inside : List ℕ) × (skip bytes ≡ apostrophe ∷ inside) × IsAfterQuote ts inside rest)

  -- data, and the bracket that closes their list
  pub AreData : Trees → List ℕ → List ℕ → Type 0
  AreData none bytes rest = skip bytes ≡ closing ∷ rest
  AreData (more t ts) bytes rest = (next : List ℕ) × IsDatum t bytes next × AreData ts next rest

  -- the list that a quote makes of the datum after it
  pub IsAfterQuote : Trees → List ℕ → List ℕ → Type 0
  IsAfterQuote none bytes rest = ⊥
  IsAfterQuote (more q none) bytes rest = ⊥
  IsAfterQuote (more q (more t none)) bytes rest = (q ≡ quote_symbol) × IsDatum t bytes rest
  IsAfterQuote (more q (more t (more u us))) bytes rest = ⊥

-- a datum of at most 128 levels stands first, and then the rest
abbrev pub StandsFirst : List ℕ → Tree → List ℕ → Type 0
StandsFirst bytes t rest = IsDatum t bytes rest × (depth_of t ≤ 128)

-- the first datum of the bytes, which are UTF-8 as a whole, is this
abbrev pub IsFirst : List ℕ → Tree → Type 0
IsFirst bytes t = IsUtf8 bytes × ((rest : List ℕ) × StandsFirst bytes t rest)

-- there is no datum: the bytes are UTF-8, and only white space and comments
abbrev pub IsEmpty : List ℕ → Type 0
IsEmpty bytes = IsUtf8 bytes × (skip bytes ≡ [])
