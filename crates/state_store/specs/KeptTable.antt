-- The table of the records, and the map that its rows are.
use Rattle.std.specs.Prelude.{◌≡◌, ℕ, ℤ, false, true, List, [], ◌∷◌, codes, Option, None, bytes_eq}
use Rattle.std.specs.List.{AllByRecursion}
use Rattle.std.specs.FinMap as map
use Rattle.sqlite_value.specs.declared.keys.Collation.TheVariants.{Binary}
use Rattle.sqlite_value.specs.declared.value.Value.TheVariants.{Null, Int, Text as Words, Blob as Raw}
use Rattle.sqlite_value.specs.Order.{Row, column, bytes}
use Rattle.sqlite_value.specs.Keys.{plain}
use Rattle.sqlite_trees.specs.Tree.{IsTable}
use Rattle.sqlite_schema.specs.declared.schema.Table.{Table}
use Rattle.sqlite_schema.specs.declared.schema.Index.{Index}
use Rattle.sqlite_schema.specs.declared.schema.Schema.{Schema}
use Rattle.sqlite_schema.specs.declared.schema.Kind.TheVariants.{Text, Any}
use Rattle.sqlite_rules.specs.Lists.{Has}
use Rattle.child_ports.specs.Keeper.{Kept}

-- `kept(key TEXT PRIMARY KEY, value BLOB NOT NULL)`
abbrev pub kept_table : Table
kept_table = record {
  name = codes "kept";
  tree = 0;
  columns = (record { name = codes "key"; kind = Text; is_strict = false; not_null = false; default = Null; collation = Binary })
      ∷ (record { name = codes "value"; kind = Any; is_strict = false; not_null = true; default = Null; collation = Binary }) ∷ [];
  key = None;
  primary = 1 ∷ [];
  uniques = (1 ∷ []) ∷ [];
  orders = plain ∷ [];
  checks = [];
  references = [];
  computed = [];
  stamps = record { places = []; terms = []; formats = [] };
  is_counted = false;
}

abbrev pub kept_index : Index
kept_index = record { name = codes "sqlite_autoindex_kept_1"; tree = 1; table = 0; columns = 1 ∷ []; order = plain; is_unique = true }

abbrev pub kept_schema : Schema
kept_schema = record { tables = kept_table ∷ []; indexes = kept_index ∷ []; views = [] }

abbrev pub no_schema : Schema
no_schema = record { tables = []; indexes = []; views = [] }

abbrev pub key_of : Row → List ℕ
key_of row = bytes (column row 1)

abbrev pub value_of : Row → List ℕ
value_of row = bytes (column row 2)

-- a rowid, a text and a blob
abbrev pub IsPair : Row → Type 0
IsPair row = (id : ℤ) × (key : List ℕ) × (value : List ℕ) × (row ≡ Int id ∷ Words key ∷ Raw value ∷ [])

-- no key comes twice
abbrev pub AreApart : List Row → Type 0
AreApart rows = (a b : Row) → Has rows a → Has rows b → bytes_eq (key_of a) (key_of b) ≡ true → a ≡ b

-- the rowids rise, each row has a key and a value, and no key comes twice
abbrev pub AreKept : List Row → Type 0
AreKept rows = IsTable rows × AllByRecursion IsPair rows × AreApart rows

-- the map from the keys of the rows to their values
abbrev pub map_of : List Row → Kept
map_of [] = map.empty
map_of (row ∷ rows) = map.insert (map_of rows) (key_of row) (value_of row)
