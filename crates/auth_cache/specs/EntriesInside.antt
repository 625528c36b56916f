-- Commits, one after another. No public clause cites it.
use Rattle.std.specs.Prelude.{ℕ, not, ◌&&◌, nat_lt, if◌then◌else◌, List, [], ◌∷◌, ◌++◌, length, bytes_eq}

-- the commits with another, unless it is the first one or there are 64
abbrev pub with_other : List (List ℕ) → List ℕ → List ℕ → List (List ℕ)
with_other ids id other = if not (bytes_eq other id) && nat_lt (length ids) 64 then ids ++ other ∷ [] else ids
