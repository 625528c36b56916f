-- The header line of an answer with an object: `ID SP TYPE SP SIZE LF` (git-cat-file(1), "BATCH OUTPUT").
use Rattle.std.specs.Prelude.{◌≡◌, ◌≢◌, ℕ, ◌^◌, ◌<◌, ◌⊎◌, List, ◌∷◌, ◌++◌, length, decimal}
use Rattle.std.specs.List.{AllPass}
use Rattle.child_ports.specs.Framed.{IsTypeWord, is_lower_hex_digit}

-- an id of 40 or 64 lower-case digits, the word for a kind of object, and a size of at most 18 digits
pub record IsHeader (digits word : List ℕ) (size : ℕ) : Type 0 where
  pub count : (length digits ≡ 40) ⊎ (length digits ≡ 64)
  pub hex : AllPass is_lower_hex_digit digits
  pub kind : IsTypeWord word
  pub small : size < 10 ^ 18

-- the header line, and what follows it
abbrev pub with_header : List ℕ → List ℕ → ℕ → List ℕ → List ℕ
with_header digits word size rest = digits ++ 32 ∷ word ++ 32 ∷ decimal size ++ 10 ∷ rest

-- the bytes begin with no header line
abbrev pub NoHeader : List ℕ → Type 0
NoHeader bytes = (digits word : List ℕ) (size : ℕ) (rest : List ℕ) → IsHeader digits word size → bytes ≢ with_header digits word size rest
