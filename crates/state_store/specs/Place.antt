-- What is known of the records, by the place of their table.
use Rattle.std.specs.Prelude.{Bool, true, false, Some, None, IsSome, unwrap_or}
use Rattle.std.specs.FinMap as map
use Rattle.sqlite.specs.State.{State}
use Rattle.sqlite.specs.Files.{file_state}
use Rattle.child_ports.specs.Keeper.{Kept}
use Rattle.state_store.specs.declared.place.Place.{Place}
use Rattle.state_store.specs.declared.place.Place.TheVariants.{Memory, File}

-- what is in memory is told, and what is in a file isn't
abbrev pub is_told : Place → Bool
is_told (Memory table) = true
is_told (File rt path table) = false

-- a table that isn't open yet has no rows
abbrev pub kept_at : Place → Kept
kept_at (Memory table) = unwrap_or table map.empty
kept_at (File rt path table) = map.empty

abbrev pub IsOpen : Place → Type 0
IsOpen (Memory table) = IsSome table
IsOpen (File rt path table) = IsSome table

-- what is so of the states of an open file before a call and behind it, in which it stays open
abbrev pub InFile : Place → Place → (State → State → Type 0) → Type 0
InFile (File rt path (Some old)) (File rt_behind path_behind (Some new)) P = P (file_state old) (file_state new)
InFile (File rt path (Some old)) _ P = ⊥
InFile _ _ P = Unit {0}
