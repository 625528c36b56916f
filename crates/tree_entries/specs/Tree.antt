-- Trees, by Git's object format ("Git Internals - Git Objects"): a run of entries `MODE SP NAME NUL ID`.
use Rattle.std.specs.Prelude.{◌≡◌, ◌==◌, ◌&&◌, ℕ, ◌+◌, ◌-◌, ◌*◌, Bool, true, not, nat_le, nat_eq, List, ◌∷◌, ◌++◌, length, codes}
use Rattle.std.specs.List.{AllByRecursion, flat_map, fold, list_all, list_any, starts_with}

-- an entry: the digits of its mode, its name and the bytes of its id
pub record TreeEntry : Type 0 where
  pub digits : List ℕ
  pub name : List ℕ
  pub id : List ℕ

abbrev pub is_octal : ℕ → Bool
is_octal c = nat_le 48 c && nat_le c 55

-- at most six octal digits, the first not 0
abbrev pub begins_mode : List ℕ → Bool
begins_mode digits = nat_le (length digits) 6 && not (starts_with nat_eq digits (codes "0")) && list_all is_octal digits

-- five or six octal digits, the first not 0
abbrev pub is_mode : List ℕ → Bool
is_mode digits = nat_le 5 (length digits) && begins_mode digits

-- whether one of the bytes is this
abbrev pub has : ℕ → List ℕ → Bool
has byte bytes = list_any (λ b. b == byte) bytes

-- one or more bytes, none of them NUL or a slash
abbrev pub is_name : List ℕ → Bool
is_name name = not (length name == 0) && not (has 47 name) && not (has 0 name)

-- with ids of this many bytes
pub record IsEntry (id_size : ℕ) (entry : TreeEntry) : Type 0 where
  pub mode : is_mode entry.digits ≡ true
  pub named : is_name entry.name ≡ true
  pub count : length entry.id ≡ id_size

abbrev pub entry_bytes : TreeEntry → List ℕ
entry_bytes entry = entry.digits ++ 32 ∷ (entry.name ++ 0 ∷ entry.id)

abbrev pub tree_bytes : List TreeEntry → List ℕ
tree_bytes entries = flat_map entry_bytes entries

-- the content is the run of these entries
pub record IsTree (id_size : ℕ) (content : List ℕ) (entries : List TreeEntry) : Type 0 where
  pub each : AllByRecursion (IsEntry id_size) entries
  pub whole : content ≡ tree_bytes entries

-- the value of octal digits
abbrev pub octal_value : List ℕ → ℕ
octal_value digits = fold (λ n c. 8 * n + (c - 48)) 0 digits

-- the mode of a file: six digits that begin with 100
abbrev pub is_file_mode : List ℕ → Bool
is_file_mode digits = nat_eq (length digits) 6 && starts_with nat_eq digits (codes "100")

abbrev pub is_file : TreeEntry → Bool
is_file entry = is_file_mode entry.digits
