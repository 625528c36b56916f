-- What the statements on the table do, over any store.
use Rattle.std.specs.Prelude.{◌≡◌, ℕ, false, true, List, codes, Result, OnOk, OnErr, IsTrue}
use Rattle.std.specs.FinMap as map
use Rattle.sqlite.specs.declared.error.Error.{Error}
use Rattle.sqlite.specs.State.{State, HasCleanDisk}
use Rattle.child_ports.specs.declared.keeper.Pair.{Pair}
use Rattle.child_ports.specs.Keeper.{Kept, with_pairs}
use Rattle.state_store.specs.KeptTable.{kept_schema, no_schema, AreKept, map_of}

-- the store is open, and so far it has returned what was written to it, as memory always has
pub record IsIntact (s : State) : Type 0 where
  pub clean : HasCleanDisk s
  pub up : IsTrue s.is_open

-- `INSERT` of a key and a value, in place of the row that has the key
abbrev pub put_text : List ℕ
put_text = codes "INSERT OR REPLACE INTO kept(key, value) VALUES (?1, ?2)"

abbrev pub kept_in : State → Kept
kept_in s = map_of (s.now.trees 0)

-- no transaction is open, and no table was made yet
pub record IsBlank (s : State) : Type 0 where
  pub ended : s.in_transaction ≡ false
  pub schema : s.now.schema ≡ no_schema

-- no transaction is open, and the one table is as it was committed
pub record Rests (s : State) : Type 0 where
  pub ended : s.in_transaction ≡ false
  pub settled : s.now ≡ s.committed
  pub schema : s.now.schema ≡ kept_schema
  pub kept : AreKept (s.now.trees 0)

-- a transaction over the one table
pub record IsInside (s : State) : Type 0 where
  pub begun : s.in_transaction ≡ true
  pub schema : s.now.schema ≡ kept_schema
  pub kept : AreKept (s.now.trees 0)

-- the table was made, without a row
pub record IsMade (s : State) : Type 0 where
  pub rests : Rests s
  pub empty : kept_in s ≡ map.empty

-- the table is as before
pub record IsSame (old new : State) : Type 0 where
  pub rests : Rests new
  pub same : kept_in new ≡ kept_in old

-- these pairs were put, in order, and nothing was committed
pub record PutsInside (pairs : List Pair) (old new : State) : Type 0 where
  pub inside : IsInside new
  pub uncommitted : new.committed ≡ old.committed
  pub put : kept_in new ≡ with_pairs (kept_in old) pairs

-- all pairs are put, in order, or none
pub record StoresAll {T : Type 0} (pairs : List Pair) (old new : State) (result : Result T Error) : Type 0 where
  pub rests : Rests new
  pub all : OnOk result (kept_in new ≡ with_pairs (kept_in old) pairs)
  pub none : OnErr result (kept_in new ≡ kept_in old)
