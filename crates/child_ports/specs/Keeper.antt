-- Values by their keys.
use Rattle.std.specs.Prelude.{ℕ, List, [], ◌∷◌}
use Rattle.std.specs.Ordering.{nat_cmp}
use Rattle.std.specs.Cmp.Lexicographic.{slice_cmp}
use Rattle.std.specs.FinMap as map
use Rattle.child_ports.specs.declared.keeper.Pair.{Pair}

-- a finite map from texts to bytes
abbrev pub Kept : Type 0
Kept = map.FinMap (slice_cmp nat_cmp) (List ℕ)

-- the map with each pair put, in order
abbrev pub with_pairs : Kept → List Pair → Kept
with_pairs kept [] = kept
with_pairs kept (pair ∷ pairs) = with_pairs (map.insert kept pair.key pair.value) pairs

-- the map of the pairs, of which the first with a key counts
abbrev pub first_pairs : List Pair → Kept
first_pairs [] = map.empty
first_pairs (pair ∷ pairs) = map.insert (first_pairs pairs) pair.key pair.value
