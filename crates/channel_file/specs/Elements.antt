-- Lists that a symbol heads, as channels, fields and properties are.
use Rattle.std.specs.Prelude.{ℕ, if◌then◌else◌, Option, Some, None, List, [], ◌∷◌}
use Rattle.std.specs.Option.{option_and_then, option_or}
use Rattle.sexp_reader.specs.Tree.{Tree, symbol_in, list_in}
use Rattle.authorizations.specs.Reading.{is_word, version_from}

-- what was found leads to the next; nothing leads to nothing
infixl 10 ◌>>=◌
abbrev pub ◌>>=◌ : {A B : Type 0} → Option A → (A → Option B) → Option B
found >>= next = option_and_then next found

-- what stands behind this word, if the first element is it
abbrev pub after_word : List ℕ → List Tree → Option (List Tree)
after_word word [] = None
after_word word (head ∷ rest) = if is_word word (symbol_in head) then Some rest else None

-- what stands behind this word, in a list that it heads
abbrev pub behind : List ℕ → Tree → Option (List Tree)
behind word datum = do
  elements ← list_in datum
  after_word word elements

-- the same in the first element that the word heads
abbrev pub first_behind : List ℕ → List Tree → Option (List Tree)
first_behind word [] = None
first_behind word (element ∷ elements) = option_or (behind word element) (first_behind word elements)

-- the one datum, if there are no more
abbrev pub only : List Tree → Option Tree
only (datum ∷ []) = Some datum
only _ = None

-- the symbol in front
abbrev pub head_in : List Tree → Option (List ℕ)
head_in [] = None
head_in (head ∷ rest) = symbol_in head

-- the symbol that heads a list
abbrev pub head_of : Tree → Option (List ℕ)
head_of datum = do
  elements ← list_in datum
  head_in elements

-- the number of `(version N)`
abbrev pub version_in : Tree → Option ℕ
version_in datum = do
  elements ← list_in datum
  version_from elements
