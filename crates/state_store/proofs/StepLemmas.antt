-- What the calls on a connection leave of the table.
use Rattle.std.proofs.Common.{◌≡◌, ◌⊎◌, inl, inr, ℕ, List, [], ◌∷◌, true, false, None, Ok, Err, Result, IfErr, OnOk, IsTrue, refl, sym, ap, subst, ◌∙◌}
use Rattle.std.specs.FinMap as map
use Rattle.std.proofs.lemmas.Bool.{both_ways}
use Rattle.sqlite_value.specs.declared.value.Value.TheVariants.{Text, Blob}
use Rattle.sqlite_value.specs.Order.{Row}
use Rattle.sqlite.specs.declared.error.Error.{Error}
use Rattle.sqlite.specs.Effect.{Database}
use Rattle.sqlite.specs.Held.{Held, state}
use Rattle.sqlite.specs.State.{State, Executes, ExecutesInside, IsNotRun, IsRolledBack, IsUnchanged, Shows, KeepsCounts}
use Rattle.sqlite.specs.Steps.{FailsToCommit, over_memory}
use Rattle.sqlite_schema.specs.declared.command.Command.TheVariants.{Nothing}
use Rattle.sqlite_trees.specs.declared.memory.MemStore.{MemStore}
use Rattle.sqlite.proofs.Callers.{memory_is_clean, runs_as}
use Rattle.child_ports.specs.declared.keeper.Pair.{Pair}
use Rattle.child_ports.specs.Keeper.{with_pairs}
use Rattle.state_store.specs.KeptTable.{kept_schema, AreKept, map_of}
use Rattle.state_store.specs.Statements.{IsIntact, put_text, kept_in, Rests, IsInside, IsSame, PutsInside, StoresAll}
use Rattle.state_store.proofs.TextLemmas.{make_text, make_again_is, make_again_plain}
use Rattle.state_store.proofs.UpsertLemmas.{upserts}

rests_on : (old new : State) → Rests old → new.now ≡ old.now → new.committed ≡ old.committed → new.in_transaction ≡ false → IsSame old new
rests_on old new rests now committed ended = record {
  rests = record {
    ended = ended;
    settled = now ∙ rests.settled ∙ sym committed;
    schema = ap (λ (d : Database). d.schema) now ∙ rests.schema;
    kept = subst (λ (d : Database). AreKept (d.trees 0)) (sym now) rests.kept;
  };
  same = ap (λ (d : Database). map_of (d.trees 0)) now;
}

pub unchanged : (old new : State) → Rests old → IsUnchanged old new → IsSame old new
unchanged old new rests h = rests_on old new rests h.0.now_is h.0.committed_is (h.0.mode ∙ rests.ended)

pub not_run : (old new : State) (sql : List ℕ) (params : Row) (e : Error) → Rests old → IsTrue new.is_open → IsNotRun old new sql params e → IsSame old new
unfolding IsNotRun
not_run old new sql params e rests up (inl h) = unchanged old new rests h.1
not_run old new sql params e rests up (inr h) = rests_on old new rests ((h.3.undone up).0 ∙ sym rests.settled) (h.3.undone up).1 h.3.autocommit

pub puts_inside : (old new : State) (pair : Pair) (r : Result ℕ Error) → IsInside old → ExecutesInside 0 put_text (Text pair.key ∷ Blob pair.value ∷ []) old new r → OnOk r (PutsInside (pair ∷ []) old new)
puts_inside old new pair (Ok count) inside h =
    let put = upserts old new pair.key pair.value (Ok count) inside.schema inside.kept h.0 in
    record { inside = record { begun = h.1.mode; schema = put.0; kept = put.1 }; uncommitted = h.1.committed_is; put = put.2 }
puts_inside old new pair (Err e) inside h = tt

pub stores_none : {A : Type 0} (old new : State) (pairs : List Pair) (e : Error) → IsSame old new → StoresAll {T = A} pairs old new (Err e)
stores_none old new pairs e same = record { rests = same.rests; all = tt; none = same.same }

-- memory never fails for good
pub memory_stays : (held : Held MemStore) → IsIntact (state over_memory held)
memory_stays held = record { clean = memory_is_clean held; up = refl }

-- making the table that is there changes nothing
pub makes_again : (old new : State) (r : Result ℕ Error) → Rests old → Executes make_text [] old new r → OnOk r (IsSame old new)
makes_again old new (Err e) rests h = tt
makes_again old new (Ok count) rests h =
    let ran : IsUnchanged old new × (count ≡ 0) = runs_as make_text [] old new kept_schema rests.schema Nothing make_again_is make_again_plain count h in
    unchanged old new rests ran.0

pub begins : (old mid : State) → Rests old → IsUnchanged old mid → IsInside (record mid { in_transaction = true })
begins old mid rests h = record {
  begun = refl;
  schema = ap (λ (d : Database). d.schema) h.0.now_is ∙ rests.schema;
  kept = subst (λ (d : Database). AreKept (d.trees 0)) (sym h.0.now_is) rests.kept;
}
