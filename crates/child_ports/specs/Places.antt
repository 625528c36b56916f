-- The places of rows, by a key of theirs.
use Rattle.std.specs.Prelude.{◌≡◌, ℕ, ◌≤◌, ◌<◌, List, length, Option, Some, None}
use Rattle.std.proofs.Common.{get_or}
use Rattle.std.specs.BTreeMap.{get_by}
use Rattle.std.specs.Cmp.Lexicographic.{slice_cmp}
use Rattle.std.specs.Ordering.{nat_cmp}
use Rattle.child_ports.specs.declared.memory.places.Places.{Places}

-- the place that is kept for a key
abbrev pub place_of : Places → List ℕ → Option ℕ
place_of places key = get_by (λ k. slice_cmp nat_cmp key k.items) places.map

-- there is a place, and it isn't after n
abbrev pub Reaches : Option ℕ → ℕ → Type 0
Reaches None n = ⊥
Reaches (Some place) n = place ≤ n

-- each row from this one on has a place at its key, which isn't after the row
abbrev pub ArePlaced : {Row : Type 0} → (Row → List ℕ) → List Row → Places → ℕ → Type 0
ArePlaced {Row} key rows places from =
    (n : ℕ) (row : Row) → from ≤ n → n < length rows → row ≡ get_or rows n row → Reaches (place_of places (key row)) n
