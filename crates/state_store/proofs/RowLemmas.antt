-- What taking rows out and putting a row in does to the values at the keys.
use Rattle.std.proofs.Common.{◌≡◌, ◌⊎◌, inl, inr, ℕ, ℤ, List, [], ◌∷◌, map, Bool, true, false, not, ◌&&◌, cond, Option, Some, None, bytes_eq, Ordering, Less, Equal, Greater, nat_cmp, refl, sym, ap, subst, ◌∙◌, true≢false}
use Rattle.std.specs.List.{AllByRecursion, list_any, list_all}
use Rattle.sqlite_sql.specs.Term.{holds}
use Rattle.state_store.proofs.TextLemmas.{query}
use Rattle.std.specs.Ordering.{is_eq, match_ordering}
use Rattle.std.specs.Cmp.Lexicographic.{slice_cmp}
use Rattle.std.proofs.lemmas.Bool.{and_parts, and_from, or_parts, or_cases, or_left, or_right, not-true, false_from_ne_true, both_ways}
use Rattle.std.proofs.lemmas.Cmp.{tied_back, nat_list_eq_equiv}
use Rattle.std.proofs.lemmas.Map.Text.{is_eq-slice_cmp}
use Rattle.sqlite_value.specs.declared.value.Value.{Value}
use Rattle.sqlite_value.specs.declared.value.Value.TheVariants.{Null, Int, Text, Blob}
use Rattle.sqlite_value.specs.Order.{Row, column, value_cmp}
use Rattle.sqlite_value.specs.Keys.{plain, first_key}
use Rattle.sqlite_value.proofs.OrderLemmas.{value_cmp_total, value_cmp-Text}
use Rattle.sqlite_trees.specs.Tree.{IsTable, rowid, has_rowid, put_row, without_rowid}
use Rattle.sqlite_sql.specs.Ops.{binary, is_true, from_truth}
use Rattle.sqlite_schema.specs.Rules.{agree}
use Rattle.sqlite_rules.specs.Lists.{Has}
use Rattle.sqlite_rules.specs.Edit.{is_taken, without_all}
use Rattle.sqlite_rules.proofs.ListLemmas.{has_filtered}
use Rattle.sqlite_rules.proofs.TableLemmas.{put_has, without_all_has}
use Rattle.state_store.specs.KeptTable.{key_of, value_of, IsPair, AreApart}

-- the value of the first row that has the key
abbrev pub value_at : List Row → List ℕ → Option (List ℕ)
value_at [] key = None
value_at (row ∷ rows) key = cond (bytes_eq (key_of row) key) (Some (value_of row)) (value_at rows key)

-- at each key the new rows have what the old ones have, but this value at this key
abbrev pub PutsAt : List ℕ → List ℕ → List Row → List Row → Type 0
PutsAt key value old new = (k : List ℕ) → value_at new k ≡ cond (bytes_eq key k) (Some value) (value_at old k)

swap : {X : Type 0} (a b : Bool) (x y z : X) → (a ≡ true → b ≡ true → ⊥) → cond a x (cond b y z) ≡ cond b y (cond a x z)
swap true true x y z apart = absurd (apart refl refl)
swap true false x y z apart = refl
swap false true x y z apart = refl
swap false false x y z apart = refl

abbrev Put : Ordering → Row → Row → List Row → List Row
Put o new r rows = match_ordering o (r ∷ put_row new rows) (new ∷ rows) (new ∷ r ∷ rows)

put_at : (new : Row) (rows : List Row) (k : List ℕ) → is_taken rows new ≡ false → ((r : Row) → Has rows r → bytes_eq (key_of r) (key_of new) ≡ false)
    → value_at (put_row new rows) k ≡ cond (bytes_eq (key_of new) k) (Some (value_of new)) (value_at rows k)
put_at new [] k free apart = refl
put_at new (r ∷ rows) k free apart =
    go (value_cmp (rowid r) (rowid new)) (or_parts _ _ free).0 (put_at new rows k (or_parts _ _ free).1 (λ x h. apart x (inr h)))
  where
    never : bytes_eq (key_of r) k ≡ true → bytes_eq (key_of new) k ≡ true → ⊥
    never p q = both_ways _ (apart r (inl refl)) (nat_list_eq_equiv.congr (key_of r) k (key_of new) p ∙ nat_list_eq_equiv.symm k (key_of new) ∙ q)

    go : (o : Ordering) → is_eq o ≡ false → value_at (put_row new rows) k ≡ cond (bytes_eq (key_of new) k) (Some (value_of new)) (value_at rows k)
        → value_at (Put o new r rows) k ≡ cond (bytes_eq (key_of new) k) (Some (value_of new)) (value_at (r ∷ rows) k)
    go Less other later = ap (λ o. cond (bytes_eq (key_of r) k) (Some (value_of r)) o) later ∙ swap (bytes_eq (key_of r) k) (bytes_eq (key_of new) k) _ _ _ never
    go Equal other later = absurd (true≢false other)
    go Greater other later = refl

filter_at : (id : ℤ) (rows : List Row) (k : List ℕ) → ((r : Row) → Has rows r → has_rowid id r ≡ true → bytes_eq (key_of r) k ≡ false) → value_at (without_rowid id rows) k ≡ value_at rows k
filter_at id [] k h = refl
filter_at id (r ∷ rows) k h = go (has_rowid id r) refl (filter_at id rows k (λ x m. h x (inr m)))
  where
    go : (b : Bool) → has_rowid id r ≡ b → value_at (without_rowid id rows) k ≡ value_at rows k → value_at (cond (not b) (r ∷ without_rowid id rows) (without_rowid id rows)) k ≡ value_at (r ∷ rows) k
    go true is later = later ∙ sym (ap (λ b. cond b (Some (value_of r)) (value_at rows k)) (h r (inl refl) is))
    go false is later = ap (λ o. cond (bytes_eq (key_of r) k) (Some (value_of r)) o) later

without_at : (ids : List ℤ) (rows : List Row) (k : List ℕ) → ((r : Row) → Has rows r → (id : ℤ) → Has ids id → has_rowid id r ≡ true → bytes_eq (key_of r) k ≡ false)
    → value_at (without_all rows ids) k ≡ value_at rows k
without_at [] rows k h = refl
without_at (id ∷ ids) rows k h =
    without_at ids (without_rowid id rows) k (λ r m other n. h r (has_filtered _ rows r m).0 other (inr n)) ∙ filter_at id rows k (λ r m. h r m id (inl refl))

pub left_from : (ids : List ℤ) (rows : List Row) (x : Row) → Has (without_all rows ids) x → Has rows x × ((id : ℤ) → Has ids id → has_rowid id x ≡ false)
left_from [] rows x h = (h, λ id none. absurd none)
left_from (id ∷ ids) rows x h =
    let r = left_from ids (without_rowid id rows) x h in
    let was = has_filtered (λ y. not (has_rowid id y)) rows x r.0 in
    (was.0, λ other k. elim k [ inl e ↦ rw e (not-true _ was.1) | inr more ↦ r.1 other more ])

-- the rows with the key give way to the new one
pub replaces : (key value : List ℕ) (id : ℤ) (rows : List Row) (ids : List ℤ)
    → ((r : Row) → Has rows r → (id : ℤ) → Has ids id → has_rowid id r ≡ true → bytes_eq (key_of r) key ≡ true)
    → ((r : Row) → Has (without_all rows ids) r → bytes_eq (key_of r) key ≡ false)
    → is_taken (without_all rows ids) (Int id ∷ Text key ∷ Blob value ∷ []) ≡ false
    → PutsAt key value rows (put_row (Int id ∷ Text key ∷ Blob value ∷ []) (without_all rows ids))
replaces key value id rows ids taken left free k =
    put_at (Int id ∷ Text key ∷ Blob value ∷ []) (without_all rows ids) k free left ∙ go (bytes_eq key k) refl
  where
    go : (b : Bool) → bytes_eq key k ≡ b → cond b (Some value) (value_at (without_all rows ids) k) ≡ cond b (Some value) (value_at rows k)
    go true is = refl
    go false is = without_at ids rows k (λ r m i n has. nat_list_eq_equiv.congr (key_of r) key k (taken r m i n has) ∙ is)

truth_is : (b : Bool) → (is_true (from_truth (Some b)) && true) ≡ b
truth_is true = refl
truth_is false = refl

pub keys_agree : (i j : ℤ) (s t v w : List ℕ) → agree plain (1 ∷ []) (Int i ∷ Text s ∷ Blob v ∷ []) (1 ∷ []) (Int j ∷ Text t ∷ Blob w ∷ []) ≡ bytes_eq s t
unfolding binary first_key
keys_agree i j s t v w = truth_is (is_eq (value_cmp (Text s) (Text t))) ∙ ap is_eq (value_cmp-Text s t) ∙ is_eq-slice_cmp s t

pub ids_agree : (i j : ℤ) (s t v w : List ℕ) → agree plain (0 ∷ []) (Int i ∷ Text s ∷ Blob v ∷ []) (0 ∷ []) (Int j ∷ Text t ∷ Blob w ∷ []) ≡ is_eq (value_cmp (Int i) (Int j))
unfolding binary first_key
ids_agree i j s t v w = truth_is (is_eq (value_cmp (Int i) (Int j)))

pub keys_hold : (i : ℤ) (s t v : List ℕ) → list_all (holds ((Text t ∷ []) ∷ (Int i ∷ Text s ∷ Blob v ∷ []) ∷ [])) query.filter ≡ bytes_eq s t
unfolding binary
keys_hold i s t v = truth_is (is_eq (value_cmp (Text s) (Text t))) ∙ ap is_eq (value_cmp-Text s t) ∙ is_eq-slice_cmp s t

pub same_keys : (a k b : List ℕ) → bytes_eq a k ≡ true → bytes_eq b k ≡ true → bytes_eq a b ≡ true
same_keys a k b p q = nat_list_eq_equiv.congr a k b p ∙ nat_list_eq_equiv.symm k b ∙ q

-- a row of another key comes to keys that are apart
pub apart_put : (new : Row) (rows : List Row) → AreApart rows → ((r : Row) → Has rows r → bytes_eq (key_of r) (key_of new) ≡ false) → AreApart (put_row new rows)
apart_put new rows apart other a b at_a at_b same = go (put_has new rows a at_a) (put_has new rows b at_b)
  where
    go : (a ≡ new) ⊎ Has rows a → (b ≡ new) ⊎ Has rows b → a ≡ b
    go (inl p) (inl q) = p ∙ sym q
    go (inl p) (inr q) = absurd (both_ways _ (other b q) (nat_list_eq_equiv.symm (key_of b) (key_of new) ∙ sym (ap (λ x. bytes_eq (key_of x) (key_of b)) p) ∙ same))
    go (inr p) (inl q) = absurd (both_ways _ (other a p) (sym (ap (λ x. bytes_eq (key_of a) (key_of x)) q) ∙ same))
    go (inr p) (inr q) = apart a b p q same

pub apart_without : (ids : List ℤ) (rows : List Row) → AreApart rows → AreApart (without_all rows ids)
apart_without ids rows apart a b at_a at_b = apart a b (without_all_has ids rows a at_a) (without_all_has ids rows b at_b)
