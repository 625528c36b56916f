-- Commits that were found authentic: the newest first.
use Rattle.std.specs.Prelude.{ℕ, ◌≤◌, not, List, ◌∷◌, filter, length, take, bytes_eq}
use Rattle.std.specs.List.{IsDistinct}

-- distinct commits, of which there are at most 64
pub record AreEntries (ids : List (List ℕ)) : Type 0 where
  pub distinct : IsDistinct bytes_eq ids
  pub few : length ids ≤ 64

-- the commit, and behind it the first others, 64 in all
abbrev pub with_id : List ℕ → List (List ℕ) → List (List ℕ)
with_id id old = take 64 (id ∷ filter (λ other. not (bytes_eq other id)) old)
