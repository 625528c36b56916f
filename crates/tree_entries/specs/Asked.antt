-- What is asked of a tree: the entry of a name, or the files whose names end so.
use Rattle.std.specs.Prelude.{◌≡◌, ◌&&◌, ℕ, Bool, false, nat_eq, bytes_eq, Option, List, ◌∷◌, ◌++◌, filter, map, option_map}
use Rattle.std.specs.List.{list_any, ends_with, find}
use Rattle.tree_entries.specs.declared.entry.Entry.{Entry}
use Rattle.tree_entries.specs.Tree.{TreeEntry, IsTree, octal_value, is_file}

abbrev pub has_name : List ℕ → TreeEntry → Bool
has_name name entry = bytes_eq entry.name name

-- a file whose name ends so
abbrev pub is_sought : List ℕ → TreeEntry → Bool
is_sought suffix entry = is_file entry && ends_with nat_eq entry.name suffix

-- an entry as it is handed out
abbrev pub shown : TreeEntry → Entry
shown entry = record { mode = (octal_value entry.digits, is_file entry); name = entry.name; id = entry.id }

-- the entry has the name, as one before it has
abbrev pub name_again : List ℕ → List TreeEntry → TreeEntry → Bool
name_again name before entry = has_name name entry && list_any (has_name name) before

-- the entry has the name of a file before it whose name ends so
abbrev pub file_again : List ℕ → List TreeEntry → TreeEntry → Bool
file_again suffix before entry = list_any (λ earlier. is_sought suffix earlier && bytes_eq earlier.name entry.name) before

-- none of the entries comes again
abbrev pub Once : (List TreeEntry → TreeEntry → Bool) → List TreeEntry → Type 0
Once again entries = (before after : List TreeEntry) (entry : TreeEntry) → entries ≡ before ++ entry ∷ after → again before entry ≡ false

-- the content is a tree in which at most one entry has the name, and this is that entry
pub record IsFound (id_size : ℕ) (content name : List ℕ) (answer : Option Entry) : Type 0 where
  pub entries : List TreeEntry
  pub tree : IsTree id_size content entries
  pub once : Once (name_again name) entries
  pub answer_is : answer ≡ option_map shown (find (has_name name) entries)

-- the content is a tree in which no entry has the name of a file before it that ends so, and these are those files
pub record AreFiles (id_size : ℕ) (content suffix : List ℕ) (answer : List Entry) : Type 0 where
  pub entries : List TreeEntry
  pub tree : IsTree id_size content entries
  pub once : Once (file_again suffix) entries
  pub answer_is : answer ≡ map shown (filter (is_sought suffix) entries)
