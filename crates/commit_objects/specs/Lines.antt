-- The lines of a commit, by Git's object format (gitformat-commit, and "Git Internals - Git Objects").
use Rattle.std.specs.Prelude.{◌≡◌, ◌≢◌, ℕ, Bool, nat_eq, List, [], ◌∷◌, ◌++◌, length, codes}
use Rattle.std.specs.List.{AllByRecursion, flat_map, starts_with}
use Rattle.hex.specs.Hex.{encode_lower, IsBytes}
pub use Rattle.child_ports.specs.Git.{NoLineEnd}
use Rattle.commit_objects.specs.Form.{Form}

pub record IsIdOf (form : Form) (id : List ℕ) : Type 0 where
  pub count : length id ≡ form.id_size
  pub bytes : IsBytes id

-- a text and the end of its line
abbrev pub line : List ℕ → List ℕ
line text = text ++ 10 ∷ []

-- a line with an id, in lower-case digits
abbrev pub id_line : List ℕ → List ℕ → List ℕ
id_line word id = word ++ encode_lower id ++ 10 ∷ []

abbrev pub tree_line : List ℕ → List ℕ
tree_line tree = id_line (codes "tree ") tree

abbrev pub parent_line : List ℕ → List ℕ
parent_line parent = id_line (codes "parent ") parent

abbrev pub author_line : List ℕ → List ℕ
author_line text = line (codes "author " ++ text)

abbrev pub committer_line : List ℕ → List ℕ
committer_line text = line (codes "committer " ++ text)

-- a further header: its first line, and its continuation lines without their space
pub record Header : Type 0 where
  pub first : List ℕ
  pub more : List (List ℕ)

pub record IsHeader (header : Header) : Type 0 where
  pub first : NoLineEnd header.first
  pub not_empty : header.first ≢ []
  pub no_space : (rest : List ℕ) → header.first ≢ 32 ∷ rest
  pub more : AllByRecursion NoLineEnd header.more

-- a continuation line
abbrev pub continued : List ℕ → List ℕ
continued text = 32 ∷ text ++ 10 ∷ []

abbrev pub header_lines : Header → List ℕ
header_lines header = line header.first ++ flat_map continued header.more

-- whether a header is the signature, or that of the other format
abbrev pub is_signature : Form → Header → Bool
is_signature form header = starts_with nat_eq header.first form.own

abbrev pub is_foreign : Form → Header → Bool
is_foreign form header = starts_with nat_eq header.first form.foreign
