-- What the two statements that write do.
use Rattle.std.proofs.Common.{◌≡◌, ◌⊎◌, inl, inr, ℕ, ℤ, pos, negsuc, List, [], ◌∷◌, map, codes, slice_get, Bool, true, false, ◌||◌, ◌&&◌, not, cond, Option, Some, None, Ok, Err, Result, IfOk, IfErr, OnOk, OnErr, IsTrue, take, get_or, length, ◌++◌, ◌+◌, ◌<◌, ◌≤◌, fold, string_bytes, refl, sym, ap, subst, ◌∙◌, true≢false, bytes_eq, Ordering, Less, Equal, Greater}
use Rattle.std.specs.FinMap as map
use Rattle.std.specs.List.{AllByRecursion, list_any}
use Rattle.std.specs.Ordering.{is_eq}
use Rattle.std.proofs.lemmas.Bool.{and_parts, or_cases, or_left, or_right, not-true, false_from_ne_true, both_ways}
use Rattle.std.proofs.lemmas.Cmp.{tied_back, tied_itself}
use Rattle.sqlite_value.specs.declared.value.Value.{Value}
use Rattle.sqlite_value.specs.declared.value.Value.TheVariants.{Null, Int, Text, Blob}
use Rattle.sqlite_value.specs.Order.{Row, column, value_cmp}
use Rattle.sqlite_value.proofs.OrderLemmas.{value_cmp_total}
use Rattle.sqlite_trees.specs.Tree.{Trees, IsTable, rowid, has_rowid, put_row}
use Rattle.sqlite_trees.specs.View.{is_int, IsShaped}
use Rattle.sqlite_trees.specs.declared.store.Shape.TheVariants.{Table as Rowed}
use Rattle.sqlite_trees.proofs.TreeLemmas.{IsTable-put_row, IsShaped-filter, all-put_row}
use Rattle.sqlite_sql.specs.Ops.{unary}
use Rattle.sqlite_sql.specs.Term.{Term, lit, col}
use Rattle.sqlite_schema.specs.declared.schema.Kind.TheVariants.{Integer}
use Rattle.sqlite_schema.specs.declared.schema.Keys.TheVariants.{Enforced}
use Rattle.sqlite_schema.specs.declared.command.Source.TheVariants.{Values}
use Rattle.sqlite_schema.specs.declared.command.Command.TheVariants.{InsertOr, CreateTable}
use Rattle.sqlite_schema.specs.declared.command.Conflict.TheVariants.{Replace}
use Rattle.sqlite_rules.specs.Cast.{cast}
use Rattle.sqlite_rules.specs.Keys.{conflicts, AreConflicts}
use Rattle.sqlite_rules.specs.Lists.{Has}
use Rattle.sqlite_rules.specs.Calls.{ids_of}
use Rattle.sqlite_rules.specs.Edit.{Edit, edit_of, id_in, next_rowid, with_rowid, is_taken, are_fresh, without_all, put_all}
use Rattle.sqlite_rules.specs.declared.error.Refusal.{Refusal}
use Rattle.sqlite_rules.specs.declared.error.Rowids.TheVariants.{Given, Chosen}
use Rattle.sqlite_rules.proofs.ListLemmas.{all_has, all_from, some_from}
use Rattle.sqlite_rules.proofs.ProbeLemmas.{has_mapped}
use Rattle.sqlite_rules.proofs.TableLemmas.{without_all_has}
use Rattle.sqlite_rules.proofs.PlaceLemmas.{tied_same, next_is_free}
use Rattle.sqlite.specs.declared.error.Error.{Error}
use Rattle.sqlite.specs.Rows.{Written, Task, Puts as PutsRow, Clears, Upserts, Judged, Tries, TriesEach, nothing, count_of}
use Rattle.sqlite.specs.Effect.{Database}
use Rattle.sqlite.specs.Does.{Tally, Does, lacks_sequence}
use Rattle.sqlite.specs.Change.{created, next_tree}
use Rattle.sqlite.specs.State.{State, mode_of, Writes, Executes, ExecutesInside, IsNotRun, Shows, KeepsCounts}
use Rattle.sqlite.specs.Steps.{FailsToCommit}
use Rattle.sqlite.specs.Listing.{understood}
use Rattle.sqlite.proofs.Callers.{statement_of, runs_as, one_step}
use Rattle.state_store.specs.KeptTable.{kept_table, kept_index, kept_schema, no_schema, key_of, IsPair, AreKept, map_of}
use Rattle.state_store.specs.Statements.{put_text, IsBlank, IsMade}
use Rattle.state_store.proofs.TextLemmas.{make_text, make_is, make_plain, table_is, schema_is, terms, put_is as command_is, put_plain}
use Rattle.state_store.proofs.MapLemmas.{put_is as map_is}
use Rattle.state_store.proofs.RowLemmas.{PutsAt, left_from, replaces, keys_agree, ids_agree, apart_put, apart_without}

either : (b : Bool) (x : Value) → cond b x x ≡ x
either true x = refl
either false x = refl

cast_null : cast Integer Null ≡ Null
unfolding unary
cast_null = either _ Null

cast_int : (n : ℤ) → cast Integer (Int n) ≡ Int n
unfolding unary
cast_int n = either _ (Int n)

went : {B E R : Type 0} {b : B} {Stops : E → Type 0} → ((stop : E) × Stops stop × (Ok b ≡ Err stop)) ⊎ R → R
went (inl stopped) = absurd (let e = stopped.2 in cc)
went (inr on) = on

same_value : {B E : Type 0} {a b : B} → ◌≡◌ {A = Result B E} (Ok a) (Ok b) → a ≡ b
same_value e = cc

equal_is : (o : Ordering) → is_eq o ≡ true → o ≡ Equal
equal_is Less h = absurd cc
equal_is Equal h = refl
equal_is Greater h = absurd cc

to_map : {A B : Type 0} (f : A → B) (xs : List A) (x : A) → Has xs x → Has (map f xs) (f x)
to_map f [] x h = absurd h
to_map f (y ∷ xs) x (inl e) = inl (ap f e)
to_map f (y ∷ xs) x (inr h) = inr (to_map f xs x h)

abbrev pair : ℤ → List ℕ → List ℕ → Row
pair id key value = Int id ∷ Text key ∷ Blob value ∷ []

keyed_of : (rows : List Row) → AllByRecursion IsPair rows → AllByRecursion (λ r. IsTrue (is_int (rowid r))) rows
keyed_of rows all = all_from _ rows (λ r h. let p = all_has IsPair rows r all h in subst (λ x. IsTrue (is_int (rowid x))) (sym p.3) refl)

shaped_without : (ids : List ℤ) (rows : List Row) → IsShaped Rowed rows → IsShaped Rowed (without_all rows ids)
shaped_without [] rows h = h
shaped_without (id ∷ ids) rows h = shaped_without ids _ (IsShaped-filter Rowed (λ r. not (has_rowid id r)) rows h)

conflict_of : (i j : ℤ) (s t v w : List ℕ) → conflicts None (kept_index ∷ []) kept_table (pair j t w) (pair i s v) ≡ true → (is_eq (value_cmp (Int i) (Int j)) ≡ true) ⊎ (bytes_eq s t ≡ true)
conflict_of i j s t v w h = elim (or_cases _ _ h) [
  | inl by_id ↦ inl (sym (ids_agree i j s t v w) ∙ by_id)
  | inr by_key ↦ elim (or_cases _ _ by_key) [ inl is ↦ inr (sym (keys_agree i j s t v w) ∙ is) | inr none ↦ absurd cc ]
]

conflict_from : (i j : ℤ) (s t v w : List ℕ) → bytes_eq s t ≡ true → conflicts None (kept_index ∷ []) kept_table (pair j t w) (pair i s v) ≡ true
conflict_from i j s t v w h = or_right _ _ (or_left _ _ (keys_agree i j s t v w ∙ h))

module _ (key value : List ℕ) (id : ℤ) (rows found : List Row) (kept : AreKept rows) (free : is_taken rows (pair id key value) ≡ false)
    (all : AreConflicts None (kept_index ∷ []) kept_table rows (pair id key value) found) where
  taken : (r : Row) → Has rows r → (i : ℤ) → Has (ids_of found) i → has_rowid i r ≡ true → bytes_eq (key_of r) key ≡ true
  taken r here i there has =
      let x = has_mapped (λ y. id_in (rowid y)) found i there in
      let q = all.sound x.0 x.1 in
      let p = all_has IsPair rows q.0 kept.1 q.1 in
      let same_id : Int i ≡ Int p.0 = ap Int (x.2 ∙ ap (λ y. id_in (rowid y)) q.3 ∙ ap (λ y. id_in (rowid y)) p.3) in
      let tie : value_cmp (rowid r) (rowid q.0) ≡ Equal = ap (value_cmp (rowid r)) (ap rowid p.3 ∙ sym same_id) ∙ equal_is _ has in
      let same : r ≡ pair p.0 p.1 p.2 = tied_same rows r q.0 kept.0 here q.1 tie ∙ p.3 in
      elim (conflict_of p.0 id p.1 key p.2 value (subst (λ y. conflicts None (kept_index ∷ []) kept_table (pair id key value) y ≡ true) p.3 q.2)) [
        | inl by_id ↦ absurd (both_ways _ free (some_from (λ y. is_eq (value_cmp (rowid y) (Int id))) rows q.0 q.1 (ap (λ y. is_eq (value_cmp (rowid y) (Int id))) p.3 ∙ by_id)))
        | inr by_key ↦ ap (λ y. bytes_eq (key_of y) key) same ∙ by_key
      ]

  left : (r : Row) → Has (without_all rows (ids_of found)) r → bytes_eq (key_of r) key ≡ false
  left r h =
      let l = left_from (ids_of found) rows r h in
      let p = all_has IsPair rows r kept.1 l.0 in
      false_from_ne_true _ (λ same.
      let clash = subst (λ y. conflicts None (kept_index ∷ []) kept_table (pair id key value) y ≡ true) (sym p.3) (conflict_from p.0 id p.1 key p.2 value (ap (λ y. bytes_eq (key_of y) key) (sym p.3) ∙ same)) in
      let there = to_map (λ y. id_in (rowid y)) found (rowid r ∷ []) (all.complete r l.0 clash) in
      let keyed : rowid r ≡ Int (id_in (rowid r)) = subst (λ y. rowid y ≡ Int (id_in (rowid y))) (sym p.3) refl in
      both_ways _ (l.1 (id_in (rowid r)) there) (ap (λ v. is_eq (value_cmp v (Int (id_in (rowid r))))) keyed ∙ ap is_eq (tied_itself value_cmp_total (Int (id_in (rowid r))))))

abbrev task : Option ℕ → List ℕ → List ℕ → Task
task limit key value = record { limit = limit; keys = Enforced; schema = kept_schema; table = kept_table; params = Text key ∷ Blob value ∷ [] }

module _ (limit : Option ℕ) (key value : List ℕ) (id : ℤ) where
  abbrev new_row : Row
  new_row = pair id key value

  put_is : (db : Trees) (w : Written) → PutsRow (task limit key value) new_row db (Ok w) → (w.trees 0 ≡ put_row new_row (db 0)) × (is_taken (db 0) new_row ≡ false)
  put_is db w h =
      let edit = edit_of db kept_table [] Given 0 (new_row ∷ []) in
      let wrote = went h in
      let applied = one_step kept_schema Enforced db wrote.0 edit refl wrote.1 in
      let news : edit.news ≡ new_row ∷ [] = ap (λ v. (v ∷ Text key ∷ Blob value ∷ []) ∷ []) (cast_int id) in
      let trees : w.trees ≡ wrote.0 = ap (λ (it : Written). it.trees) (same_value wrote.2) in
      let fresh : are_fresh (db 0) (new_row ∷ []) ≡ true = subst (λ all. are_fresh (db 0) all ≡ true) news applied.fresh in
      (ap (λ (t : Trees). t 0) trees ∙ applied.rows ∙ ap (put_all (db 0)) news, not-true _ (and_parts _ _ fresh).0)

  clear_is : (db : Trees) (found : List Row) (w : Written) → Clears (task limit key value) Replace new_row db found (Ok w)
      → (w.trees 0 ≡ put_row new_row (without_all (db 0) (ids_of found))) × (is_taken (without_all (db 0) (ids_of found)) new_row ≡ false)
  clear_is db [] w h = put_is db w h
  clear_is db (x ∷ more) w h =
      let edit = edit_of db kept_table (ids_of (x ∷ more)) Given 0 [] in
      let gone = went h in
      let rows : gone.0 0 ≡ without_all (db 0) (ids_of (x ∷ more)) = (one_step kept_schema Enforced db gone.0 edit refl gone.1).rows in
      let put = put_is gone.0 w gone.2 in
      (put.0 ∙ ap (put_row new_row) rows, subst (λ all. is_taken all new_row ≡ false) rows put.1)

  judge : (db : Trees) (w : Written) (o : Option Refusal) → Judged (task limit key value) Replace [] new_row db o (Ok w) → Upserts (task limit key value) Replace new_row db [] (Ok w)
  judge db w None h = h
  judge db w (Some why) h = absurd cc

  tries_is : (db : Trees) (w : Written) → AreKept (db 0) → is_taken (db 0) new_row ≡ false → Tries (task limit key value) Replace [] new_row db (Ok w) → AreKept (w.trees 0) × PutsAt key value (db 0) (w.trees 0)
  tries_is db w kept free (inl bad) = absurd (let e = bad.1 in cc)
  tries_is db w kept free (inr h) =
      let up = judge db w h.0 h.2 in
      let ids = ids_of up.0 in
      let c = clear_is db up.0 w up.2 in
      let rows = without_all (db 0) ids in
      let after : AreKept (put_row new_row rows) = (
        IsTable-put_row new_row rows (shaped_without ids (db 0) (kept.0, keyed_of (db 0) kept.1)).0,
        all-put_row IsPair new_row rows (id, key, value, refl) (all_from IsPair rows (λ r m. all_has IsPair (db 0) r kept.1 (without_all_has ids (db 0) r m))),
        apart_put new_row rows (apart_without ids (db 0) kept.2) (left key value id (db 0) up.0 kept free up.1),
      ) in
      let puts = replaces key value id (db 0) ids (taken key value id (db 0) up.0 kept free up.1) (left key value id (db 0) up.0 kept free up.1) c.1 in
      (subst AreKept (sym c.0) after, subst (PutsAt key value (db 0)) (sym c.0) puts)

pub upserts : (old new : State) (key value : List ℕ) (r : Result ℕ Error) → old.now.schema ≡ kept_schema → AreKept (old.now.trees 0) → Executes put_text (Text key ∷ Blob value ∷ []) old new r
    → OnOk r ((new.now.schema ≡ kept_schema) × AreKept (new.now.trees 0) × (map_of (new.now.trees 0) ≡ map.insert (map_of (old.now.trees 0)) key value))
upserts old new key value (Err e) has kept h = tt
upserts old new key value (Ok count) has kept h =
    let params = Text key ∷ Blob value ∷ [] in
    let db = old.now.trees in
    let command = InsertOr 0 Replace (Values terms 3) [] in
    let w = runs_as put_text params old new kept_schema has command command_is put_plain count h in
    let text = statement_of put_text (understood kept_schema put_text) in
    let done = went (subst (λ s. Does old.step_limit (mode_of old) params (record old.now { schema = s }) text None command (Ok (w.tally, new.now))) has w.changed) in
    let now = ap (λ (p : Tally × Database). p.1) (same_value (went (went done.2).2).2) in
    let given = went done.1 in
    let counter = went given.2 in
    let tried = went counter.2 in
    let last = went tried.2 in
    let id = next_rowid (db 0) in
    let it = task old.step_limit key value in
    let one = went (subst (λ rows. TriesEach it Replace [] rows (count_of counter.0) (nothing db) (Ok tried.0)) given.1.1 tried.1) in
    let made : with_rowid Chosen (db 0) (cast Integer Null ∷ Text key ∷ Blob value ∷ []) ≡ pair id key value = ap (λ v. with_rowid Chosen (db 0) (v ∷ Text key ∷ Blob value ∷ [])) cast_null in
    let free = next_is_free Chosen (db 0) (Text key ∷ Blob value ∷ []) kept.0 (keyed_of (db 0) kept.1) in
    let end = tries_is old.step_limit key value id db one.0 kept free (subst (λ row. Tries it Replace [] row db (Ok one.0)) made one.1) in
    let trees : tried.0.0.trees ≡ one.0.trees = ap (λ (p : Written × ℤ). p.0.trees) (same_value one.2) in
    let whole : new.now.trees 0 ≡ one.0.trees 0 =
    ap (λ (d : Database). d.trees 0) now ∙ ap (λ (it : Written). it.trees 0) (same_value last.2) ∙ ap (λ (t : Trees). t 0) (same_value last.1) ∙ ap (λ (t : Trees). t 0) trees in
    (ap (λ (d : Database). d.schema) now, subst AreKept (sym whole) end.0, map_is key value (db 0) (new.now.trees 0) (subst (PutsAt key value (db 0)) (sym whole) end.1))

pub makes : (old new : State) (r : Result ℕ Error) → IsBlank old → Executes make_text [] old new r → OnOk r (IsMade new)
makes old new (Err e) blank h = tt
makes old new (Ok count) blank h =
    let w = subst (λ t. Writes old new None CreateTable t [] count) make_is.1 (runs_as make_text [] old new no_schema blank.schema CreateTable make_is.0 make_plain count h) in
    let all = went w.changed in
    let first = went all.1 in
    let made = first.1 in
    let both : Ok made.table ≡ Ok kept_table = sym made.defined ∙ table_is in
    let same : made.table ≡ kept_table = cc in
    let schema : first.0.schema ≡ kept_schema = made.is ∙ ap (λ s. created s made.table) blank.schema ∙ ap (created no_schema) same ∙ schema_is in
    let plain : lacks_sequence first.0.schema ≡ false = ap lacks_sequence schema in
    let now : new.now ≡ first.0 = ap (λ (p : Tally × Database). p.1) (same_value all.2) ∙ same_value (rw plain at first.2) in
    let empty : new.now.trees 0 ≡ [] = ap (λ (d : Database). d.trees 0) now ∙ subst (λ s. first.0.trees (next_tree s) ≡ []) blank.schema made.empty in
    record {
      rests = record {
        ended = w.shown.mode ∙ blank.ended;
        settled = sym (w.shown.committed_is ∙ ap (λ b. cond b old.committed new.now) blank.ended);
        schema = ap (λ (d : Database). d.schema) now ∙ schema;
        kept = subst AreKept (sym empty) (tt, tt, λ a b none. absurd none);
      };
      empty = ap map_of empty;
    }
