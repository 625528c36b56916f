-- What the selection answers, and that it changes nothing.
use Rattle.std.proofs.Common.{◌≡◌, ◌⊎◌, inl, inr, ℕ, ℤ, zero, suc, ◌<◌, List, [], ◌∷◌, ◌++◌, map, flat_map, get_or, length, Bool, true, false, ◌&&◌, cond, Option, Some, None, Ok, Err, Result, IfOk, IsTrue, All, bytes_eq, refl, sym, ap, subst, ◌∙◌, arith, true≢false}
use Rattle.std.specs.FinMap.{get}
use Rattle.std.specs.List.{list_all}
use Rattle.std.specs.List.Sorted.{IsPermutation}
use Rattle.std.proofs.lemmas.List.{nil_from_length}
use Rattle.std.proofs.lemmas.List.Sorted.{All-permutation, length_permutation}
use Rattle.sqlite_value.specs.declared.value.Value.TheVariants.{Null, Int, Text, Blob}
use Rattle.sqlite_value.specs.Order.{Row, column}
use Rattle.sqlite_trees.specs.declared.error.StoreError.{StoreError}
use Rattle.sqlite_trees.specs.declared.error.StoreError.TheVariants.{OutOfMemory, Io, Corrupt, Full, Broken, Unstorable}
use Rattle.sqlite_sql.specs.Term.{Env, holds}
use Rattle.sqlite_sql.specs.Query.{Output, output, IsAnswer}
use Rattle.sqlite_sql.specs.Program.{overlay}
use Rattle.sqlite_rules.specs.Lists.{Has}
use Rattle.sqlite_rules.proofs.ListLemmas.{all_has}
use Rattle.sqlite_rules.proofs.ProbeLemmas.{has_mapped}
use Rattle.sqlite.specs.Clock.{timed}
use Rattle.sqlite.specs.Effect.{Database, RefusesToRead}
use Rattle.sqlite.specs.Listing.{understood}
use Rattle.sqlite.specs.State.{State, QueriesRow, Shown, ShowsRows, FailsToQuery, FailsToShow, IsNoStatement, IsNotRun, IsUnchanged, store_error}
use Rattle.sqlite.specs.declared.error.Error.{Error}
use Rattle.sqlite.specs.declared.error.Error.TheVariants.{QueryReturnedNoRows}
use Rattle.sqlite.proofs.Callers.{IsPlain, command_of, first_as, reads_as}
use Rattle.state_store.specs.KeptTable.{kept_schema, key_of, value_of, IsPair, AreKept, AreApart}
use Rattle.state_store.specs.Statements.{Rests, IsSame, kept_in}
use Rattle.state_store.proofs.TextLemmas.{select_text, query, selection, select_is, select_plain}
use Rattle.state_store.proofs.RowLemmas.{value_at, keys_hold, same_keys}
use Rattle.state_store.proofs.MapLemmas.{get-map_of}
use Rattle.state_store.proofs.StepLemmas.{unchanged, not_run}

has_get : {X : Type 0} (xs : List X) (i : ℕ) (d : X) → i < length xs → Has xs (get_or xs i d)
has_get [] i d low = absurd (omega arith)
has_get (x ∷ xs) zero d low = inl refl
has_get (x ∷ xs) (suc i) d low = inr (has_get xs i d (omega arith))

kept_has : (rows : List Row) (r : Row) (key : List ℕ) → AreApart rows → Has rows r → bytes_eq (key_of r) key ≡ true → ((x : Row) → Has rows x → bytes_eq (key_of x) key ≡ true → x ≡ r) → value_at rows key ≡ Some (value_of r)
kept_has [] r key apart here is one = absurd here
kept_has (x ∷ rows) r key apart here is one = go (bytes_eq (key_of x) key) refl (λ later. kept_has rows r key (λ a b p q. apart a b (inr p) (inr q)) later is (λ y m. one y (inr m)))
  where
    go : (b : Bool) → bytes_eq (key_of x) key ≡ b → (Has rows r → value_at rows key ≡ Some (value_of r)) → cond b (Some (value_of x)) (value_at rows key) ≡ Some (value_of r)
    go true same more = ap (λ y. Some (value_of y)) (one x (inl refl) same)
    go false other more = elim here [
      | inl e ↦ absurd (true≢false (sym is ∙ ap (λ y. bytes_eq (key_of y) key) e ∙ other))
      | inr later ↦ more later
    ]

abbrev Hit : List Row → List ℕ → Row → Type 0
Hit rows key row = (r : Row) × Has rows r × (bytes_eq (key_of r) key ≡ true) × (row ≡ column r 2 ∷ [])

-- the environments of the rows that pass
hits : (key : List ℕ) (rows all : List Row) → ((x : Row) → Has rows x → IsPair x) → ((x : Row) → Has rows x → Has all x) → (e : Env)
    → Has (flat_map (λ r. cond (list_all (holds ((Text key ∷ []) ∷ r ∷ [])) query.filter) (((Text key ∷ []) ∷ r ∷ []) ∷ []) []) rows) e → Hit all key (output query e).1
hits key [] all pairs within e h = absurd h
hits key (r ∷ rows) all pairs within e h = go (list_all (holds ((Text key ∷ []) ∷ r ∷ [])) query.filter) refl h (hits key rows all (λ x m. pairs x (inr m)) (λ x m. within x (inr m)) e)
  where
    passes : list_all (holds ((Text key ∷ []) ∷ r ∷ [])) query.filter ≡ true → bytes_eq (key_of r) key ≡ true
    passes = let p = pairs r (inl refl) in
        subst (λ x. list_all (holds ((Text key ∷ []) ∷ x ∷ [])) query.filter ≡ true → bytes_eq (key_of x) key ≡ true) (sym p.3) (λ h. sym (keys_hold p.0 p.1 key p.2) ∙ h)

    go : (b : Bool) → list_all (holds ((Text key ∷ []) ∷ r ∷ [])) query.filter ≡ b
        → Has (cond b (((Text key ∷ []) ∷ r ∷ []) ∷ []) [] ++ flat_map (λ r. cond (list_all (holds ((Text key ∷ []) ∷ r ∷ [])) query.filter) (((Text key ∷ []) ∷ r ∷ []) ∷ []) []) rows) e → (Has (flat_map (λ r. cond (list_all (holds ((Text key ∷ []) ∷ r ∷ [])) query.filter) (((Text key ∷ []) ∷ r ∷ []) ∷ []) []) rows) e → Hit all key (output query e).1) → Hit all key (output query e).1
    go true is (inl same) later = (r, within r (inl refl), passes is, ap (λ (env : Env). (output query env).1) same)
    go true is (inr more) later = later more
    go false is more later = later more

head_of : (P : Row → Type 0) {row : Row} {tail : List Row} (os : List Output) → row ∷ tail ≡ map (λ o. o.1) os → All (λ (o : Output). P o.1) os → P row
head_of P {row} [] e all = absurd cc
head_of P {row} (o ∷ os) e all = let same : row ≡ o.1 = cc in subst P (sym same) (all 0 o (omega arith))

finds : (old new : State) (key : List ℕ) (row : Row) → old.now.schema ≡ kept_schema → AreKept (old.now.trees 0) → AreApart (old.now.trees 0) → QueriesRow select_text (Text key ∷ []) old new (Ok row)
    → (value : List ℕ) × (row ≡ Blob value ∷ []) × (value_at (old.now.trees 0) key ≡ Some value)
finds old new key row has kept apart h =
    let got = (first_as select_text (Text key ∷ []) old new kept_schema has selection select_is.0 select_plain select_is.1 row h).1 in
    let a : IsAnswer query (overlay old.now.trees []) (Text key ∷ []) (row ∷ got.0) = got.1 Null in
    let rows = old.now.trees 0 in
    let each : All (λ (o : Output). Hit rows key o.1) a.kept = λ i d low.
    let e = has_mapped (output query) a.staged (get_or a.kept i d) (subst (λ k. Has k (get_or a.kept i d)) a.distinct (has_get a.kept i d low)) in
    let hit = hits key rows rows (λ x m. all_has IsPair rows x kept.1 m) (λ x m. m) e.0 (subst (λ s. Has s e.0) a.grouped e.1) in
    subst (λ (o : Output). Hit rows key o.1) (sym e.2) hit in
    let ordered = All-permutation (λ (o : Output). Hit rows key o.1) a.kept a.ordered a.same each in
    let first = head_of (Hit rows key) a.ordered a.shown ordered in
    let p = all_has IsPair rows first.0 kept.1 first.1 in (
      p.2,
      first.3 ∙ ap (λ r. column r 2 ∷ []) p.3,
      kept_has rows first.0 key apart first.1 first.2 (λ x m is. apart x first.0 m first.1 (same_keys (key_of x) key (key_of first.0) is first.2)) ∙ ap (λ r. Some (value_of r)) p.3,
    )

pub finds_any : (old new : State) (key : List ℕ) (r : Result Row Error) → Rests old → QueriesRow select_text (Text key ∷ []) old new r
    → IfOk r (λ row. (value : List ℕ) × (row ≡ Blob value ∷ []) × (get (kept_in old) key ≡ Some value))
finds_any old new key (Ok row) rests h =
    let found = finds old new key row rests.schema rests.kept rests.kept.2 h in
    (found.0, found.1, get-map_of (old.now.trees 0) key ∙ found.2)
finds_any old new key (Err e) rests h = tt

-- where no row passes, none has the key
no_hits : (key : List ℕ) (rows : List Row) → ((x : Row) → Has rows x → IsPair x)
    → flat_map (λ r. cond (list_all (holds ((Text key ∷ []) ∷ r ∷ [])) query.filter) (((Text key ∷ []) ∷ r ∷ []) ∷ []) []) rows ≡ [] → value_at rows key ≡ None
no_hits key [] pairs none = refl
no_hits key (r ∷ rows) pairs none = go (list_all (holds ((Text key ∷ []) ∷ r ∷ [])) query.filter) refl none (no_hits key rows (λ x m. pairs x (inr m)))
  where
    is_key : list_all (holds ((Text key ∷ []) ∷ r ∷ [])) query.filter ≡ bytes_eq (key_of r) key
    is_key = let p = pairs r (inl refl) in subst (λ x. list_all (holds ((Text key ∷ []) ∷ x ∷ [])) query.filter ≡ bytes_eq (key_of x) key) (sym p.3) (keys_hold p.0 p.1 key p.2)

    rest : List Env
    rest = flat_map (λ r. cond (list_all (holds ((Text key ∷ []) ∷ r ∷ [])) query.filter) (((Text key ∷ []) ∷ r ∷ []) ∷ []) []) rows

    go : (b : Bool) → list_all (holds ((Text key ∷ []) ∷ r ∷ [])) query.filter ≡ b → cond b (((Text key ∷ []) ∷ r ∷ []) ∷ []) [] ++ flat_map (λ r. cond (list_all (holds ((Text key ∷ []) ∷ r ∷ [])) query.filter) (((Text key ∷ []) ∷ r ∷ []) ∷ []) []) rows ≡ []
        → (flat_map (λ r. cond (list_all (holds ((Text key ∷ []) ∷ r ∷ [])) query.filter) (((Text key ∷ []) ∷ r ∷ []) ∷ []) []) rows ≡ [] → value_at rows key ≡ None) → value_at (r ∷ rows) key ≡ None
    go true is none later = absurd cc
    go false is none later = ap (λ b. cond b (Some (value_of r)) (value_at rows key)) (sym is_key ∙ is) ∙ later none

none_mapped : {A B : Type 0} (f : A → B) (xs : List A) → map f xs ≡ [] → xs ≡ []
none_mapped f [] e = refl
none_mapped f (x ∷ xs) e = absurd cc

not_stored : (cause : StoreError) → QueryReturnedNoRows ≡ store_error cause → ⊥
not_stored OutOfMemory e = cc
not_stored Io e = cc
not_stored Corrupt e = cc
not_stored Full e = cc
not_stored Broken e = cc
not_stored Unstorable e = cc

a_statement : (s : State) (sql : List ℕ) (params : Row) → IsNoStatement s sql params QueryReturnedNoRows → ⊥
a_statement s sql params (inl h) = let e = h.2 in cc
a_statement s sql params (inr h) = elim h.2 [
  | inl more ↦ let e = more.1 in cc
  | inr other ↦ elim other [ inl count ↦ let e = count.1 in cc | inr clock ↦ let e = clock.1 in cc ]
]

not_refused : (limit : Option ℕ) (db : Database) (params : Row) → RefusesToRead limit selection db params QueryReturnedNoRows → ⊥
not_refused limit db params (inl h) = let e = h.0 in cc
not_refused limit db params (inr (inl h)) = let e = h.0 in cc
not_refused limit db params (inr (inr h)) = let e = h.0 in cc

-- "no rows" is no failure of a selection
never_fails : (old new : State) (params : Row) → old.now.schema ≡ kept_schema → FailsToQuery select_text params old new QueryReturnedNoRows → ⊥
unfolding FailsToQuery IsNotRun
never_fails old new params has (inl (inl h)) = a_statement old select_text params h.0
never_fails old new params has (inl (inr h)) = not_stored h.0 h.1
never_fails old new params has (inr h) =
    let known = sym h.1.is ∙ ap (λ s. understood s select_text) has in
    let bare = subst IsPlain (sym known) select_plain in
    let shows = subst (FailsToShow old new select_text h.0 (timed params h.0.formats h.1.now) QueryReturnedNoRows) bare.0 h.2 in
    not_refused old.step_limit shows.0 (timed params h.0.formats h.1.now) (subst (λ k. RefusesToRead old.step_limit k shows.0 (timed params h.0.formats h.1.now) QueryReturnedNoRows) (ap command_of known ∙ select_is.0) shows.2)

finds_none : (old new : State) (key : List ℕ) → Rests old → QueriesRow select_text (Text key ∷ []) old new (Err QueryReturnedNoRows) → get (kept_in old) key ≡ None
unfolding QueriesRow
finds_none old new key rests (inl h) = absurd (never_fails old new (Text key ∷ []) rests.schema h)
finds_none old new key rests (inr h) =
    let read = reads_as select_text (Text key ∷ []) old new kept_schema rests.schema selection select_is.0 select_plain select_is.1 [] h.1 in
    let a : IsAnswer query (overlay old.now.trees []) (Text key ∷ []) [] = read.answer Null in
    let rows = old.now.trees 0 in
    let ordered = none_mapped (λ o. o.1) a.ordered (sym a.shown) in
    let kept = nil_from_length a.kept (sym (length_permutation a.kept a.ordered a.same) ∙ ap length ordered) in
    let staged = none_mapped (output query) a.staged (sym a.distinct ∙ kept) in
    get-map_of rows key ∙ no_hits key rows (λ x m. all_has IsPair rows x rests.kept.1 m) (sym a.grouped ∙ staged)

pub finds_none_any : (old new : State) (key : List ℕ) (r : Result Row Error) → Rests old → QueriesRow select_text (Text key ∷ []) old new r → r ≡ Err QueryReturnedNoRows → get (kept_in old) key ≡ None
finds_none_any old new key r rests h none = finds_none old new key rests (subst (QueriesRow select_text (Text key ∷ []) old new) none h)

shown_same : (old new : State) (params : Row) (rows : List Row) → old.now.schema ≡ kept_schema → Shown select_text params old new rows → IsUnchanged old new
unfolding Shown
shown_same old new params rows has h =
    let known = sym h.1.is ∙ ap (λ s. understood s select_text) has in
    let bare = subst IsPlain (sym known) select_plain in
    (subst (ShowsRows old new select_text h.0 (timed params h.0.formats h.1.now) rows) bare.0 h.2).3

fails_same : (old new : State) (params : Row) (e : Error) → Rests old → IsTrue new.is_open → FailsToQuery select_text params old new e → IsSame old new
unfolding FailsToQuery
fails_same old new params e rests up (inl h) = not_run old new select_text params e rests up h
fails_same old new params e rests up (inr h) =
    let known = sym h.1.is ∙ ap (λ s. understood s select_text) rests.schema in
    let bare = subst IsPlain (sym known) select_plain in
    unchanged old new rests (subst (FailsToShow old new select_text h.0 (timed params h.0.formats h.1.now) e) bare.0 h.2).3

pub queries_same : (old new : State) (params : Row) (r : Result Row Error) → Rests old → IsTrue new.is_open → QueriesRow select_text params old new r → IsSame old new
unfolding QueriesRow
queries_same old new params (Ok row) rests up (inl h) = unchanged old new rests h.1
queries_same old new params (Ok row) rests up (inr h) = unchanged old new rests (shown_same old new params h.0 rests.schema h.1)
queries_same old new params (Err e) rests up (inl h) = fails_same old new params e rests up h
queries_same old new params (Err e) rests up (inr h) = unchanged old new rests (shown_same old new params [] rests.schema h.1)
