-- Keys with their counts, one signer after another, and then in order.
use Rattle.std.proofs.Common.{◌≡◌, ◌↔◌, ℕ, zero, suc, ◌+◌, ◌<◌, ◌≤◌, Bool, true, false, cond, List, length, map, take, get_or, Option, Some, unwrap_or, refl, sym, ap, subst, ◌∙◌, arith, Contains, inl, inr, add-one}
use Rattle.std.specs.Prelude.{bytes_eq, AllPairs, IsTrue}
use Rattle.std.specs.BTreeMap.{BTreeMap}
use Rattle.std.specs.BTreeMap as tree
use Rattle.std.specs.BTreeSet.{BTreeSet}
use Rattle.std.specs.BTreeSet as sorted
use Rattle.std.specs.Cmp.{IsTotalOrder}
use Rattle.std.specs.Ordering.{is_eq, nat_cmp, ordering_then, MatchOrdering}
use Rattle.std.specs.declared.cmp.Ordering.{Ordering}
use Rattle.std.specs.declared.cmp.Ordering.TheVariants.{Less, Equal, Greater}
use Rattle.std.specs.declared.cmp.Reverse.{Reverse}
use Rattle.std.proofs.lemmas.Cmp.{then_total, on_total, back_total, nat_cmp_total, ranked}
use Rattle.std.proofs.lemmas.List.{get_or-map, length-map, length-take}
use Rattle.std.proofs.lemmas.List.Sums.{count_by-le-length, count_by_more_yes, count_by_more_no}
use Rattle.std.proofs.lemmas.Map.Keys.{Less-from_sorted}
use Rattle.std.proofs.lemmas.Map.Lookups.{CmpEqualImpliesEq, exact_pairs, exact_unsigned, exact_bytes}
use Rattle.std.proofs.lemmas.Map.Text.{is_eq-slice_cmp}
use Rattle.std.proofs.lemmas.Map.Views.{btree_map_get_iff, btree_set_contains_iff, btree_set_contains_from_list}
use Rattle.std.proofs.lemmas.Slice.Eq.{bytes_eq-Decides}
use Rattle.child_ports.specs.KeySet.{key_cmp}
use Rattle.child_ports.specs.declared.fingerprint.Fingerprint.{Fingerprint}
use Rattle.child_ports.proofs.KeySetLemmas.{key_cmp_total}
use Rattle.auth_engine.specs.Counting.{counted, Row, row_cmp, row_of, signer_of}
use Rattle.auth_engine.specs.Tally.{IsTally, RanksAbove, count_of}
use Rattle.auth_engine.specs.declared.task.Signer.{Signer}

-- ---- one signer more

same_key : (a b : Fingerprint) → a.0 ≡ b.0 → a ≡ b
same_key a b e = ap (λ (bytes : List ℕ). record { 0 = bytes }) e

counted_next : (n : ℕ) → Some (n + 1) ≡ counted (n + 1)
counted_next n = ap Some (add-one n) ∙ sym (ap counted (add-one n))

unwrap_counted : (n : ℕ) → unwrap_or (counted n) 0 ≡ n
unwrap_counted zero = refl
unwrap_counted (suc n) = refl

-- what the map has at a key, as a number
pub count_so_far : (signers : List Fingerprint) (k : Fingerprint) (n : ℕ) (o : Option ℕ) → o ≡ counted (count_of signers k) → n ≡ unwrap_or o 0 → n ≡ count_of signers k
count_so_far signers k n o has is = is ∙ ap (λ x. unwrap_or x 0) has ∙ unwrap_counted (count_of signers k)

pub at_most_all : (signers : List Fingerprint) (i : ℕ) (k : Fingerprint) (n : ℕ) → n ≡ count_of (take i signers) k → n ≤ length signers
at_most_all signers i k n is = omega (arith, count_by-le-length (λ (found : Fingerprint). bytes_eq found.0 k.0) (take i signers), length-take i signers)

-- the map has the counts of one signer more
pub counted_step : (signers : List Fingerprint) (i : ℕ) (d q : Fingerprint) (n : ℕ) (was now : Option ℕ) → i < length signers
    → n ≡ count_of (take i signers) (get_or signers i d) → was ≡ counted (count_of (take i signers) q) → now ≡ cond (is_eq (key_cmp (get_or signers i d) q)) (Some (n + 1)) was
    → now ≡ counted (count_of (take (i + 1) signers) q)
counted_step signers i d q n was now low count before put = by (bytes_eq (get_or signers i d).0 q.0) refl
  where
    put_by : (b : Bool) → bytes_eq (get_or signers i d).0 q.0 ≡ b → now ≡ cond b (Some (n + 1)) was
    put_by b e = put ∙ ap (λ t. cond t (Some (n + 1)) was) (is_eq-slice_cmp (get_or signers i d).0 q.0 ∙ e)

    by : (b : Bool) → bytes_eq (get_or signers i d).0 q.0 ≡ b → now ≡ counted (count_of (take (i + 1) signers) q)
    by true e =
        let same : get_or signers i d ≡ q = same_key (get_or signers i d) q ((bytes_eq-Decides (get_or signers i d).0 q.0).0 e) in
        put_by true e ∙ counted_next n
        ∙ ap (λ m. counted (m + 1)) (count ∙ ap (count_of (take i signers)) same)
        ∙ sym (ap counted (count_by_more_yes (λ (found : Fingerprint). bytes_eq found.0 q.0) signers i d low e))
    by false e = put_by false e ∙ before ∙ sym (ap counted (count_by_more_no (λ (found : Fingerprint). bytes_eq found.0 q.0) signers i d low e))

-- ---- the order of rows

keys_exact : CmpEqualImpliesEq key_cmp
keys_exact a b e = same_key a b (exact_bytes a.0 b.0 e)

counts_exact : CmpEqualImpliesEq (λ (a b : Reverse ℕ). nat_cmp b.0 a.0)
counts_exact a b e = ap (λ (n : ℕ). record { 0 = n }) (sym (exact_unsigned b.0 a.0 e))

rows_total : IsTotalOrder row_cmp
rows_total = then_total (on_total (λ (row : Row). row.0.0) (back_total nat_cmp_total)) (on_total (λ (row : Row). row.1) key_cmp_total)

rows_exact : CmpEqualImpliesEq row_cmp
rows_exact = exact_pairs (λ (a b : Reverse ℕ). nat_cmp b.0 a.0) key_cmp counts_exact keys_exact

ranks_above : (a b : Row) → row_cmp a b ≡ Less → RanksAbove (signer_of a) (signer_of b)
ranks_above a b less = by (nat_cmp b.0.0 a.0.0) (ranked b.0.0 a.0.0 (nat_cmp b.0.0 a.0.0) refl) less
  where
    by : (o : Ordering) → MatchOrdering o (b.0.0 < a.0.0) (b.0.0 ≡ a.0.0) (a.0.0 < b.0.0) → ordering_then o (key_cmp a.1 b.1) ≡ Less → RanksAbove (signer_of a) (signer_of b)
    by Less h e = inl h
    by Equal h e = inr (sym h, e)
    by Greater h e = cc

-- ---- lists that are read through an inverse

contains_map : {A B : Type 0} (f : A → B) (xs : List A) (x : A) → Contains xs x → Contains (map f xs) (f x)
contains_map {A} {B} f xs x (k, low, at) = (k, omega (arith, low, length-map {B = B} xs f), get_or-map f xs k x (f x) low ∙ ap f at)

contains_back : {A B : Type 0} (f : A → B) (g : B → A) → ((x : A) → g (f x) ≡ x) → (xs : List A) (y : B) → Contains (map f xs) y → Contains xs (g y)
contains_back {A} {B} f g back xs y (k, low, at) =
    let within : k < length xs = omega (arith, low, length-map {B = B} xs f) in
    (k, within, sym (back (get_or xs k (g y))) ∙ ap g (sym (get_or-map f xs k (g y) y within) ∙ at))

-- ---- the tally

counted_is : (m n : ℕ) → counted m ≡ Some n → (0 < n) × (m ≡ n)
counted_is zero n e = cc
counted_is (suc m) n e = let same : suc m ≡ n = cc in (omega arith, same)

is_counted : (m n : ℕ) → 0 < n → m ≡ n → counted m ≡ Some n
is_counted zero n some e = absurd (omega arith)
is_counted (suc m) n some e = ap Some e

abbrev entry_of : Row → Fingerprint × ℕ
entry_of row = (row.1, row.0.0)

abbrev row_at : Signer → Row
row_at signer = (record { 0 = signer.commits }, signer.key)

module _ (signers : List Fingerprint) (counts : BTreeMap Fingerprint ℕ) (rows : BTreeSet Row)
    (has : (key : Fingerprint) → tree.get key_cmp counts key ≡ counted (count_of signers key))
    (ordered : tree.IsOrdered key_cmp counts) (from : sorted.IsFromIterResult row_cmp (map row_of counts.entries) rows) where
  entry_iff : (key : Fingerprint) (n : ℕ) → (tree.get key_cmp counts key ≡ Some n) ↔ Contains counts.entries (key, n)
  entry_iff key n = btree_map_get_iff key_cmp_total keys_exact counts ordered key n

  row_iff : (row : Row) → IsTrue (sorted.contains row_cmp rows row) ↔ Contains rows.keys row
  row_iff row = btree_set_contains_iff rows_total rows_exact rows row

  from_iff : (row : Row) → IsTrue (sorted.contains row_cmp rows row) ↔ Contains (map row_of counts.entries) row
  from_iff row = btree_set_contains_from_list rows_total rows_exact (map row_of counts.entries) rows from row

  listed : (key : Fingerprint) (n : ℕ) → Contains (map signer_of rows.keys) (record { key = key; commits = n }) → (0 < n) × (count_of signers key ≡ n)
  listed key n h =
      let row : Row = (record { 0 = n }, key) in
      let there : Contains rows.keys row = contains_back signer_of row_at (λ _. refl) rows.keys (record { key = key; commits = n }) h in
      let entry : Contains counts.entries (key, n) = contains_back row_of entry_of (λ _. refl) counts.entries row ((from_iff row).0 ((row_iff row).1 there)) in
      counted_is (count_of signers key) n (sym (has key) ∙ (entry_iff key n).1 entry)

  found : (key : Fingerprint) (n : ℕ) → 0 < n → count_of signers key ≡ n → Contains (map signer_of rows.keys) (record { key = key; commits = n })
  found key n some is =
      let row : Row = (record { 0 = n }, key) in
      let entry : Contains counts.entries (key, n) = (entry_iff key n).0 (has key ∙ is_counted (count_of signers key) n some is) in
      let there : Contains rows.keys row = (row_iff row).0 ((from_iff row).1 (contains_map row_of counts.entries (key, n) entry)) in
      contains_map signer_of rows.keys row there

  size : (k : ℕ) → k < length (map signer_of rows.keys) → k < length rows.keys
  size k low = omega (arith, low, length-map {B = Signer} rows.keys signer_of)

  descending : AllPairs RanksAbove (map signer_of rows.keys)
  descending i j d before low =
      let at : (k : ℕ) → k < length (map signer_of rows.keys) → get_or (map signer_of rows.keys) k d ≡ signer_of (get_or rows.keys k (row_at d)) = λ k h. get_or-map signer_of rows.keys k (row_at d) d (size k h) in
      subst (λ x. RanksAbove x (get_or (map signer_of rows.keys) j d)) (sym (at i (omega (arith, before, low))))
      (subst (RanksAbove (signer_of (get_or rows.keys i (row_at d)))) (sym (at j low))
      (ranks_above (get_or rows.keys i (row_at d)) (get_or rows.keys j (row_at d)) (Less-from_sorted row_cmp rows.keys i j (row_at d) from.1 before (size j low))))

  pub is_tally : IsTally signers (map signer_of rows.keys)
  is_tally = record { counts = λ key n. (listed key n, λ h. found key n h.0 h.1); ordered = descending }
