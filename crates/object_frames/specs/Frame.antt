-- Header lines of answers (git-cat-file(1), "BATCH OUTPUT").
use Rattle.std.specs.Prelude.{◌≡◌, ◌≢◌, ◌⊎◌, ℕ, ◌<◌, ◌≤◌, ◌^◌, List, [], ◌∷◌, ◌++◌, length, take, decimal}
use Rattle.hex.specs.Hex.{encode_lower}
use Rattle.child_ports.specs.Git.{missing, ambiguous}
use Rattle.object_frames.specs.Id.{IsId}
use Rattle.object_frames.specs.declared.kind.Kind.{Kind}
use Rattle.object_frames.specs.Object.{type_word}

-- ID SP TYPE SP SIZE
abbrev pub header_line : List ℕ → Kind → ℕ → List ℕ
header_line id kind size = encode_lower id ++ 32 ∷ type_word kind ++ 32 ∷ decimal size

-- the line, its end included, says of an object which id, kind and size it has: a size has at most 18 digits
pub record IsObjectLine (line : List ℕ) : Type 0 where
  pub id : List ℕ
  pub kind : Kind
  pub size : ℕ
  pub is_id : IsId id
  pub small : size < 10 ^ 18
  pub whole : line ≡ header_line id kind size ++ 10 ∷ []

-- a line, its end included, with which an answer to the name may begin
abbrev pub IsHeaderLine : List ℕ → List ℕ → Type 0
IsHeaderLine name line = (line ≡ missing name) ⊎ ((line ≡ ambiguous name) ⊎ IsObjectLine line)

-- no header line for the name stands at the front of the answer
abbrev pub HasNoHeader : List ℕ → List ℕ → Type 0
HasNoHeader name answer = (line rest : List ℕ) → IsHeaderLine name line → answer ≢ line ++ rest

-- some such line begins with the front
abbrev pub Begins : (List ℕ → Type 0) → List ℕ → Type 0
Begins Line front = (rest : List ℕ) × Line (front ++ rest)

-- it is the length of the longest front of the bytes with which some such line begins
pub record IsLongest (Line : List ℕ → Type 0) (bytes : List ℕ) (at : ℕ) : Type 0 where
  pub within : at ≤ length bytes
  pub begins : Begins Line (take at bytes)
  pub longest : (n : ℕ) → at < n → n ≤ length bytes → Begins Line (take n bytes) → ⊥
