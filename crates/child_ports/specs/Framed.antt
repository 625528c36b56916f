-- One whole answer of git, by git-cat-file(1), "BATCH OUTPUT". An id may have 40 or 64 digits here.
use Rattle.std.specs.Prelude.{◌≡◌, ℕ, ◌^◌, ◌<◌, ◌⊎◌, List, [], ◌∷◌, ◌++◌, length, codes, decimal, ◌&&◌, ◌||◌, nat_le, Bool}
use Rattle.std.specs.List.{AllPass}
use Rattle.child_ports.specs.declared.git.GitRow.{GitRow}
use Rattle.child_ports.specs.Git.{IsName, missing, ambiguous, answer}

-- the word for a kind of object
abbrev pub IsTypeWord : List ℕ → Type 0
IsTypeWord word = (word ≡ codes "commit") ⊎ (word ≡ codes "tree") ⊎ (word ≡ codes "blob") ⊎ (word ≡ codes "tag")

-- a digit of an id
abbrev pub is_lower_hex_digit : ℕ → Bool
is_lower_hex_digit c = (nat_le 48 c && nat_le c 57) || (nat_le 97 c && nat_le c 102)

-- the answer with an object: its id's digits, the word for its kind, its size, its content
abbrev pub object_frame : List ℕ → List ℕ → List ℕ → List ℕ
object_frame digits word content = digits ++ 32 ∷ word ++ 32 ∷ decimal (length content) ++ 10 ∷ content ++ 10 ∷ []

-- an answer with an object, under an id of 40 or 64 digits
pub record IsObjectFrame (frame : List ℕ) : Type 0 where
  pub digits : List ℕ
  pub word : List ℕ
  pub content : List ℕ
  pub count : (length digits ≡ 40) ⊎ (length digits ≡ 64)
  pub hex : AllPass is_lower_hex_digit digits
  pub kind : IsTypeWord word
  pub size : length content < 10 ^ 18
  pub whole : frame ≡ object_frame digits word content

-- one whole answer to the name
abbrev pub IsFrame : List ℕ → List ℕ → Type 0
IsFrame name frame = (frame ≡ missing name) ⊎ (frame ≡ ambiguous name) ⊎ IsObjectFrame frame

-- The answer is one whole frame for its name, or has no prefix that is one: any that is one is all of it.
abbrev pub IsFramed : List ℕ → List ℕ → Type 0
IsFramed name answer = (front rest : List ℕ) → answer ≡ front ++ rest → IsFrame name front → rest ≡ []

-- a row's name can be asked, and its answer is framed
pub record RowFits (row : GitRow) : Type 0 where
  pub name : IsName row.name
  pub answer : IsFramed row.name row.answer
