-- A list of work in which each commit's place is kept at the commit. No public clause cites it.
use Rattle.std.specs.Prelude.{◌≡◌, ℕ, ◌<◌, ◌≤◌, true, List, length, Some, IsSome, slice_index_or}
use Rattle.std.specs.Option.{option_map}
use Rattle.std.specs.List.{IsDistinct}
use Rattle.commit_graph.specs.declared.node.Node.{Node}
use Rattle.commit_graph.specs.History.{Name}
use Rattle.commit_graph.specs.Node.{held_of}
use Rattle.commit_graph.specs.Level.{node_at, level_at}
use Rattle.commit_graph.specs.Walk.{same_name, is_in}

abbrev pub place_of : Node → ℕ
place_of node = node.place

-- each commit of the list keeps its place there
abbrev pub AreInPlace : List (Name × Node) → List Name → Type 0
AreInPlace nodes work = (k : ℕ) (d : Name) → k < length work → option_map place_of (node_at nodes (slice_index_or work k d)) ≡ Some k

-- only places differ
pub record OnlyPlaces (old new : List (Name × Node)) : Type 0 where
  pub held : held_of new ≡ held_of old
  pub size : length new ≡ length old
  pub levels : (id : Name) → level_at new id ≡ level_at old id

-- the list has distinct commits that are held, and room for each that is
pub record HasSpace (nodes : List (Name × Node)) (work : List Name) (capacity : ℕ) : Type 0 where
  pub distinct : IsDistinct same_name work
  pub held : (id : Name) → is_in work id ≡ true → IsSome (node_at nodes id)
  pub room : length nodes ≤ capacity
