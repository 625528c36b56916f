-- First lines of answers, as they are read.
use Rattle.std.specs.Prelude.{◌≡◌, ◌⊎◌, ℕ, ◌≤◌, List, [], ◌∷◌, ◌++◌, length}
use Rattle.child_ports.specs.Git.{NoLineEnd}

-- one line, its end included
abbrev pub IsLine : List ℕ → Type 0
IsLine line = (text : List ℕ) × NoLineEnd text × (line ≡ text ++ 10 ∷ [])

-- The piece is a line; or no line ends in it, and nothing follows it or there was no more room.
abbrev pub IsPiece : ℕ → List ℕ → List ℕ → Type 0
IsPiece room piece rest = IsLine piece ⊎ (NoLineEnd piece × ((rest ≡ []) ⊎ (room ≤ length piece)))
