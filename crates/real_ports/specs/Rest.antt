-- What is still to come of an answer of `git cat-file --batch` (git-cat-file(1), "BATCH OUTPUT").
use Rattle.std.specs.Prelude.{◌≡◌, ◌==◌, ℕ, ◌+◌, ◌-◌, ◌⊎◌, nat_lt, if◌then◌else◌, Bool, true, false, List, [], ◌∷◌, ◌++◌}
use Rattle.byte_cuts.specs.Cuts.{Lacks}
use Rattle.child_ports.specs.Git.{missing, ambiguous}
use Rattle.child_ports.specs.FrameHeader.{IsHeader, NoHeader, with_header}
use Rattle.real_ports.specs.declared.rest.Rest.{Rest}
use Rattle.real_ports.specs.declared.rest.Rest.TheVariants.{Nothing, Header, Body, Unknown}

-- the line says that nothing is there, or more than one object
abbrev pub IsAbsence : List ℕ → List ℕ → Type 0
IsAbsence name line = (line ≡ missing name) ⊎ (line ≡ ambiguous name)

-- the line begins with the header line of an object of this size
abbrev pub HasSize : List ℕ → ℕ → Type 0
HasSize line size = (digits word rest : List ℕ) × IsHeader digits word size × (line ≡ with_header digits word size rest)

-- What comes behind a whole line that answers the name: nothing behind an absence, behind an object's line its content
-- and a line feed, and behind any other line nobody knows.
abbrev pub IsBehind : List ℕ → List ℕ → Rest → Type 0
IsBehind name line Nothing = IsAbsence name line
IsBehind name line (Body left) = (IsAbsence name line → ⊥) × ((size : ℕ) × HasSize line size × (left ≡ size + 1))
IsBehind name line Unknown = (IsAbsence name line → ⊥) × NoHeader line
IsBehind name line Header = ⊥

-- what is left of so many bytes of content and line feed once some were read
abbrev pub body_after : ℕ → ℕ → Rest
body_after left count = if nat_lt count left then Body (left - count) else if count == left then Nothing else Unknown

-- what is left once bytes beyond the header line were read
abbrev pub rest_after : Rest → ℕ → Rest
rest_after (Body left) more = body_after left more
rest_after rest more = if more == 0 then rest else Unknown

-- whether a read has to give bytes
abbrev pub is_to_come : Rest → Bool
is_to_come Nothing = false
is_to_come Header = true
is_to_come (Body left) = true
is_to_come Unknown = false

-- a child that serves a directory may be asked on for a directory
pub record MayAskOn (served : List ℕ) (rest : Rest) (dir : List ℕ) : Type 0 where
  pub same : served ≡ dir
  pub read : rest ≡ Nothing

-- the part of the bytes that belongs to a line: up to its line feed, or all where it has none
abbrev pub IsLinePart : List ℕ → List ℕ → Bool → Type 0
IsLinePart bytes part true = (front rest : List ℕ) × Lacks 10 front × (part ≡ front ++ 10 ∷ []) × (bytes ≡ part ++ rest)
IsLinePart bytes part false = (part ≡ bytes) × Lacks 10 bytes
