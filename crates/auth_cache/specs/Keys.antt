-- Keys, ascending by their bytes.
use Rattle.std.specs.Prelude.{◌≡◌, List, [], ◌∷◌, length}
use Rattle.std.specs.BTreeSet.{insert_key}
use Rattle.std.specs.FinSet.{items}
use Rattle.std.specs.List.{AllByRecursion}
use Rattle.std.specs.List.Sorted.{IsStrictlySortedBy}
use Rattle.hex.specs.Hex.{IsBytes}
use Rattle.child_ports.specs.declared.fingerprint.Fingerprint.{Fingerprint}
use Rattle.child_ports.specs.KeySet.{Keys, key_cmp}

-- 20 bytes
pub record IsKey (key : Fingerprint) : Type 0 where
  pub count : length key.0 ≡ 20
  pub bytes : IsBytes key.0

-- such keys, each above the one before
pub record AreKeys (keys : List Fingerprint) : Type 0 where
  pub each : AllByRecursion IsKey keys
  pub ascending : IsStrictlySortedBy key_cmp keys

-- keys, each at its place
abbrev pub put_all : List Fingerprint → List Fingerprint
put_all [] = []
put_all (key ∷ keys) = insert_key key_cmp (put_all keys) key

-- the keys of a set, ascending
unfoldable pub ascending : Keys → List Fingerprint
ascending keys = put_all (items keys)
