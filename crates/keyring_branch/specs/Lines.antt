-- The lines that armour is read by.
use Rattle.std.specs.Prelude.{◌==◌, ◌||◌, ℕ, Bool, if◌then◌else◌, List, [], ◌∷◌, map}

-- a byte in front of lines stands in the first of them
abbrev pub in_first : ℕ → List (List ℕ) → List (List ℕ)
in_first byte [] = (byte ∷ []) ∷ []
in_first byte (line ∷ lines) = (byte ∷ line) ∷ lines

-- the lines of a text: each ends at a line feed, and the last may lack it
abbrev pub cut_lines : List ℕ → List (List ℕ)
cut_lines [] = []
cut_lines (byte ∷ text) = if byte == 10 then [] ∷ cut_lines text else in_first byte (cut_lines text)

-- space, tab or carriage return
abbrev pub is_blank : ℕ → Bool
is_blank byte = byte == 32 || byte == 9 || byte == 13

-- a blank in front of nothing is taken off
abbrev pub before_trimmed : ℕ → List ℕ → List ℕ
before_trimmed byte [] = if is_blank byte then [] else byte ∷ []
before_trimmed byte (next ∷ line) = byte ∷ next ∷ line

-- a line without the blanks at its end
abbrev pub trimmed : List ℕ → List ℕ
trimmed [] = []
trimmed (byte ∷ line) = before_trimmed byte (trimmed line)

unfoldable pub lines_of : List ℕ → List (List ℕ)
lines_of text = map trimmed (cut_lines text)
