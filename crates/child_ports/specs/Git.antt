-- What git answers to names, and how an answer is read in pieces.
use Rattle.std.specs.Prelude.{◌≡◌, ◌≢◌, ℕ, ◌≤◌, ◌<◌, List, [], ◌∷◌, ◌++◌, length, take, codes, bytes_eq, ◌&&◌, if◌then◌else◌}
use Rattle.std.specs.List.{AllByRecursion}
use Rattle.child_ports.specs.declared.git.GitRow.{GitRow}

-- no line ends in it
abbrev pub NoLineEnd : List ℕ → Type 0
NoLineEnd bytes = AllByRecursion (λ b. b ≢ 10) bytes

-- a name that can be asked: at most 1,024 bytes, and no line feed
pub record IsName (name : List ℕ) : Type 0 where
  pub short : length name ≤ 1024
  pub one_line : NoLineEnd name

-- the answer to a name that nothing has (git-cat-file(1), "BATCH OUTPUT")
abbrev pub missing : List ℕ → List ℕ
missing name = name ++ codes " missing\n"

-- the answer to a name that more than one object has
abbrev pub ambiguous : List ℕ → List ℕ
ambiguous name = name ++ codes " ambiguous\n"

-- what the rows answer to a name in a directory: the first row counts, and without one the name is missing
abbrev pub answer : List GitRow → List ℕ → List ℕ → List ℕ
answer [] dir name = missing name
answer (row ∷ rows) dir name = if bytes_eq row.dir dir && bytes_eq row.name name then row.answer else answer rows dir name

-- a read handed out n bytes at the front of buf: none only at the end, or where there is no room
pub record Hands (old new : List ℕ) (n : ℕ) (buf : List ℕ) : Type 0 where
  pub front : old ≡ take n buf ++ new
  pub none : n ≡ 0 → 0 < length buf → old ≡ []
