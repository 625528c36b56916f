-- An entry as the code holds it.
use Rattle.std.specs.Prelude.{◌≡◌, ℕ, Ok, List}
use Rattle.tree_entries.specs.declared.entry.Entry.{Entry}
use Rattle.tree_entries.specs.declared.front.FrontEntry.{FrontEntry}
use Rattle.tree_entries.specs.Tree.{TreeEntry}
use Rattle.tree_entries.specs.Asked.{shown}
use Rattle.tree_entries.specs.Reading.{front_of}

abbrev pub entry_of : FrontEntry → Entry
entry_of entry = record { mode = entry.mode; name = entry.name.now; id = entry.id }

-- the reading of the front gives this entry and this rest
pub record Reads (id_size at : ℕ) (content : List ℕ) (entry : Entry) (rest : List ℕ) : Type 0 where
  pub read : TreeEntry
  pub front : front_of id_size at content ≡ Ok (read, rest)
  pub shows : entry ≡ shown read
