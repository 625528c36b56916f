-- What follows a header line.
use Rattle.std.specs.Prelude.{◌≡◌, ℕ, ◌==◌, ◌≤◌, ◌<◌, List, [], ◌∷◌, ◌++◌, length, take, nat_le, slice_index, if◌then◌else◌}
use Rattle.object_frames.specs.declared.body.Body.{Body}
use Rattle.object_frames.specs.declared.body.Body.TheVariants.{Whole, Cut, Open}

-- a content of this size and a line feed, or what there is of them
abbrev pub body_of : ℕ → List ℕ → Body
body_of size rest = if nat_le (length rest) size then Cut (length rest) else (if slice_index rest size == 10 then Whole (take size rest) else Open)

-- no more bytes are counted than there is room for
abbrev pub IsWithin : ℕ → Body → Type 0
IsWithin size (Whole content) = length content ≡ size
IsWithin size (Cut n) = n ≤ size
IsWithin size Open = Unit {0}

-- nothing was read past the line feed
abbrev pub Leaves : List ℕ → List ℕ → Body → Type 0
Leaves old new (Whole content) = old ≡ content ++ 10 ∷ new
Leaves old new (Cut n) = Unit {0}
Leaves old new Open = Unit {0}

-- the first n of the bytes were read, which are all where there was no more
pub record ReadsContent (size : ℕ) (Told : Type 0) (old new bytes : List ℕ) (n : ℕ) : Type 0 where
  pub room : length bytes ≡ size
  pub within : n ≤ size
  pub read : Told → old ≡ take n bytes ++ new
  pub short : Told → n < size → new ≡ []
