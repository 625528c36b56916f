-- The first entry of a content that is at fault, by the offset of its first byte, and the first fault of it.
use Rattle.std.specs.Prelude.{◌≡◌, ◌≢◌, ◌⊎◌, ℕ, Bool, true, false, List, [], ◌∷◌, ◌++◌, length}
use Rattle.std.specs.List.{AllByRecursion}
use Rattle.tree_entries.specs.declared.fail.TreeFail.{TreeFail}
use Rattle.tree_entries.specs.declared.fail.TreeFail.TheVariants.{Cut, Mode, Name, Twice, Memory}
use Rattle.tree_entries.specs.Tree.{TreeEntry, is_mode, has, IsEntry, entry_bytes, tree_bytes}
use Rattle.tree_entries.specs.Asked.{Once, name_again, file_again}

-- what is left is some of an entry and not all of it
pub record IsCut (id_size : ℕ) (rest : List ℕ) : Type 0 where
  pub entry : TreeEntry
  pub more : List ℕ
  pub is_entry : IsEntry id_size entry
  pub some_more : more ≢ []
  pub whole : entry_bytes entry ≡ rest ++ more

-- a mode and a space stand at the front
pub record HasMode (rest : List ℕ) : Type 0 where
  pub digits : List ℕ
  pub text : List ℕ
  pub is_mode : is_mode digits ≡ true
  pub whole : rest ≡ digits ++ 32 ∷ text

-- behind them, a name that is empty, or one that has a slash, whether its end stands there or not
pub record HasWrongName (rest : List ℕ) : Type 0 where
  pub digits : List ℕ
  pub name : List ℕ
  pub behind : List ℕ
  pub mode : is_mode digits ≡ true
  pub no_end : has 0 name ≡ false
  pub wrong : ((name ≡ []) × ((more : List ℕ) × (behind ≡ 0 ∷ more))) ⊎ (has 47 name ≡ true)
  pub whole : rest ≡ digits ++ 32 ∷ (name ++ behind)

-- the faults of what is left, whose first byte is at this offset
abbrev pub IsFrontFault : ℕ → ℕ → List ℕ → TreeFail → Type 0
IsFrontFault id_size at rest (Cut place) = (place ≡ at) × IsCut id_size rest
IsFrontFault id_size at rest (Mode place) = (place ≡ at) × (IsCut id_size rest → ⊥) × (HasMode rest → ⊥)
IsFrontFault id_size at rest (Name place) = (place ≡ at) × (IsCut id_size rest → ⊥) × HasWrongName rest
IsFrontFault id_size at rest (Twice place) = ⊥
IsFrontFault id_size at rest Memory = ⊥

-- entries of which none comes again, and then something
pub record Meets (id_size : ℕ) (again : List TreeEntry → TreeEntry → Bool) (content : List ℕ) (Rest : List TreeEntry → List ℕ → Type 0) : Type 0 where
  pub before : List TreeEntry
  pub rest : List ℕ
  pub each : AllByRecursion (IsEntry id_size) before
  pub once : Once again before
  pub some_rest : rest ≢ []
  pub whole : content ≡ tree_bytes before ++ rest
  pub stands : Rest before rest

-- an entry that comes again
pub record ComesAgain (id_size : ℕ) (again : List TreeEntry → TreeEntry → Bool) (place : ℕ) (before : List TreeEntry) (rest : List ℕ) : Type 0 where
  pub entry : TreeEntry
  pub more : List ℕ
  pub is_entry : IsEntry id_size entry
  pub comes_again : again before entry ≡ true
  pub at : place ≡ length (tree_bytes before)
  pub whole : rest ≡ entry_bytes entry ++ more

abbrev pub IsFault : ℕ → (List TreeEntry → TreeEntry → Bool) → List ℕ → TreeFail → Type 0
IsFault id_size again content (Twice place) = Meets id_size again content (ComesAgain id_size again place)
IsFault id_size again content Memory = Unit {0}
IsFault id_size again content fail = Meets id_size again content (λ before rest. IsFrontFault id_size (length (tree_bytes before)) rest fail)

-- where the entry of a name is sought
abbrev pub IsFindFault : ℕ → List ℕ → List ℕ → TreeFail → Type 0
IsFindFault id_size content name fail = IsFault id_size (name_again name) content fail

-- where files are sought
abbrev pub IsFilesFault : ℕ → List ℕ → List ℕ → TreeFail → Type 0
IsFilesFault id_size content suffix fail = IsFault id_size (file_again suffix) content fail
