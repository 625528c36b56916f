-- A text, cut into its lines.
use Rattle.std.specs.Prelude.{◌≡◌, ◌==◌, ℕ, if◌then◌else◌, List, [], ◌∷◌, ◌++◌}
use Rattle.std.specs.List.{AllByRecursion, flat_map}
pub use Rattle.child_ports.specs.Git.{NoLineEnd}

-- a text and the end of its line
abbrev pub line : List ℕ → List ℕ
line text = text ++ 10 ∷ []

-- the lines of a text: those that a line feed ends, and what stands behind the last line feed
pub record Lines : Type 0 where
  pub whole : List (List ℕ)
  pub left : List ℕ

-- a byte before these lines, in the first of them
abbrev pub put_byte : ℕ → List (List ℕ) → List ℕ → Lines
put_byte b [] left = record { whole = []; left = b ∷ left }
put_byte b (l ∷ ls) left = record { whole = (b ∷ l) ∷ ls; left = left }

abbrev pub lines_of : List ℕ → Lines
lines_of [] = record { whole = []; left = [] }
lines_of (b ∷ bytes) = if b == 10
    then record { whole = [] ∷ (lines_of bytes).whole; left = (lines_of bytes).left }
    else put_byte b (lines_of bytes).whole (lines_of bytes).left

-- the text begins with these lines
pub record Begins (lines : List (List ℕ)) (text : List ℕ) : Type 0 where
  pub each : AllByRecursion NoLineEnd lines
  pub rest : List ℕ
  pub whole : text ≡ flat_map line lines ++ rest
