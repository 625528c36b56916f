-- The reading of a content, entry by entry: the answer, or the first entry at fault.
use Rattle.std.specs.Prelude.{◌≡◌, ◌==◌, ◌+◌, ℕ, zero, suc, nat_lt, Bool, if◌then◌else◌, Option, Some, None, Result, Ok, Err, List, [], ◌∷◌, ◌++◌, length, take, drop, filter, map, option_map}
use Rattle.std.specs.List.{find}
use Rattle.tree_entries.specs.declared.entry.Entry.{Entry}
use Rattle.tree_entries.specs.declared.fail.TreeFail.{TreeFail}
use Rattle.tree_entries.specs.declared.fail.TreeFail.TheVariants.{Cut, Mode, Name, Twice, Memory}
use Rattle.tree_entries.specs.Tree.{TreeEntry, begins_mode, is_mode, has, is_name, entry_bytes, tree_bytes}
use Rattle.tree_entries.specs.Asked.{has_name, is_sought, shown, name_again, file_again}

-- what stands before the first such byte, and what stands behind it
abbrev pub cut : ℕ → List ℕ → Option (List ℕ × List ℕ)
cut end [] = None
cut end (b ∷ bytes) = if b == end then Some ([], bytes) else option_map (λ parts. (b ∷ parts.0, parts.1)) (cut end bytes)

-- the entry at the front of what is left, and the rest; or its first fault
abbrev pub with_id : ℕ → ℕ → List ℕ → List ℕ → List ℕ → Result (TreeEntry × List ℕ) TreeFail
with_id size at digits name text = if nat_lt (length text) size
    then Err (Cut at)
    else Ok (record { digits = digits; name = name; id = take size text }, drop size text)

abbrev pub with_name : ℕ → ℕ → List ℕ → List ℕ → Option (List ℕ × List ℕ) → Result (TreeEntry × List ℕ) TreeFail
with_name size at digits text None = if has 47 text then Err (Name at) else Err (Cut at)
with_name size at digits text (Some parts) = if is_name parts.0 then with_id size at digits parts.0 parts.1 else Err (Name at)

abbrev pub with_mode : ℕ → ℕ → List ℕ → Option (List ℕ × List ℕ) → Result (TreeEntry × List ℕ) TreeFail
with_mode size at content None = if begins_mode content then Err (Cut at) else Err (Mode at)
with_mode size at content (Some parts) = if is_mode parts.0 then with_name size at parts.0 parts.1 (cut 0 parts.1) else Err (Mode at)

unfoldable pub front_of : ℕ → ℕ → List ℕ → Result (TreeEntry × List ℕ) TreeFail
front_of size at content = with_mode size at content (cut 32 content)

-- the entries of what is left, up to the first that can't be read, and its fault; there are no more entries than bytes
abbrev pub onward : Result (TreeEntry × List ℕ) TreeFail → (TreeEntry → List ℕ → List TreeEntry × Option TreeFail) → List TreeEntry × Option TreeFail
onward (Ok front) next = (front.0 ∷ (next front.0 front.1).0, (next front.0 front.1).1)
onward (Err fault) next = ([], Some fault)

unfoldable pub walk : ℕ → ℕ → ℕ → List ℕ → List TreeEntry × Option TreeFail
walk size bytes at [] = ([], None)
walk size zero at (b ∷ content) = ([], None)
walk size (suc bytes) at (b ∷ content) = onward (front_of size at (b ∷ content)) (λ entry rest. walk size bytes (at + length (entry_bytes entry)) rest)

-- the first of these entries that comes again
abbrev pub first_again : (List TreeEntry → TreeEntry → Bool) → List TreeEntry → List TreeEntry → Option TreeFail
first_again again before [] = None
first_again again before (entry ∷ entries) = if again before entry
    then Some (Twice (length (tree_bytes before)))
    else first_again again (before ++ entry ∷ []) entries

-- the answer is this, unless there is that fault
abbrev pub unless : {A : Type 0} → Option TreeFail → Result A TreeFail → Result A TreeFail
unless (Some fault) answer = Err fault
unless None answer = answer

unfoldable pub answer_of : {A : Type 0} → (List TreeEntry → TreeEntry → Bool) → (List TreeEntry → A) → ℕ → List ℕ → Result A TreeFail
answer_of again answer size content =
    let read = walk size (length content) 0 content in
    unless (first_again again [] read.0) (unless read.1 (Ok (answer read.0)))

-- the entry of a name in trees with ids of this many bytes
abbrev pub find_in : ℕ → List ℕ → List ℕ → Result (Option Entry) TreeFail
find_in size content name = answer_of (name_again name) (λ entries. option_map shown (find (has_name name) entries)) size content

-- the files whose names end so
abbrev pub files_in : ℕ → List ℕ → List ℕ → Result (List Entry) TreeFail
files_in size content suffix = answer_of (file_again suffix) (λ entries. map shown (filter (is_sought suffix) entries)) size content

-- the same in the sha1 format
abbrev pub find_of : List ℕ → List ℕ → Result (Option Entry) TreeFail
find_of content name = find_in 20 content name

abbrev pub files_of : List ℕ → List ℕ → Result (List Entry) TreeFail
files_of content suffix = files_in 20 content suffix

-- What a call answered is this, unless memory ran out.
abbrev pub Gives : {A : Type 0} → Result A TreeFail → Result A TreeFail → Type 0
Gives (Ok answer) reading = reading ≡ Ok answer
Gives (Err Memory) reading = Unit {0}
Gives (Err fault) reading = reading ≡ Err fault
