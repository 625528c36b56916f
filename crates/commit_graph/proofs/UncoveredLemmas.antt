-- What is left of a target's history, as rows in order.
use Rattle.std.proofs.Common.{◌≡◌, ◌↔◌, ℕ, ◌<◌, Bool, true, false, cond, not, ◌&&◌, ◌||◌, List, [], ◌∷◌, ◌++◌, length, zero, suc, map, fold, Option, Some, None, refl, sym, ap, ◌∙◌, subst, arith, All, Contains, ◌⊎◌, inl, inr, ⊎_elim, Result, Ok, Err, IfOk}
use Rattle.std.specs.Bool.{IsTrue}
use Rattle.std.specs.BTreeSet.{insert_key}
use Rattle.std.specs.Cmp.{IsTotalOrder, IsEquivalence, eq_by_cmp_equiv}
use Rattle.std.specs.List.{filter, list_any, slice_index_or}
use Rattle.std.specs.List.Sorted.{IsStrictlySortedBy}
use Rattle.std.specs.Option.{option_map, MatchOption}
use Rattle.std.specs.Ordering.{is_eq, eq_by_cmp, match_ordering, MatchOrdering, nat_cmp, ordering_then}
use Rattle.std.specs.declared.cmp.Ordering.{Ordering}
use Rattle.std.specs.declared.cmp.Ordering.TheVariants.{Less, Equal, Greater}
use Rattle.std.specs.FinSet as set
use Rattle.std.proofs.lemmas.Bool.{true≢false}
use Rattle.std.proofs.lemmas.Cmp.{then_total, on_total, nat_cmp_total, nat_list_cmp_total, ranked}
use Rattle.std.proofs.lemmas.List.{get_or-map, length-map}
use Rattle.std.proofs.lemmas.List.Sums.{fold-append}
use Rattle.std.proofs.lemmas.Map.Keys.{Less-from_sorted}
use Rattle.std.proofs.lemmas.Map.Lookups.{CmpEqualImpliesEq, exact_pairs, exact_unsigned, exact_bytes}
use Rattle.std.proofs.lemmas.Map.Views.{All-insert_key, Contains-from_any, Contains-from_lookup, tells_apart}
use Rattle.commit_graph.specs.declared.node.Node.{Node}
use Rattle.commit_graph.specs.declared.level.Level.{Level}
use Rattle.commit_graph.specs.declared.level.Level.TheVariants.{Unknown, Entered, Known, Endless}
use Rattle.commit_graph.specs.Chains.{Reaches, IsGeneration}
use Rattle.commit_graph.specs.Covers.{IsCovered, AreUncovered, ComesBefore}
use Rattle.commit_graph.specs.History.{Name, name_cmp, Commits, Holds, IsParent, IsWhole, IsReachedFrom}
use Rattle.commit_graph.specs.Level.{node_at, level_at, level_of, AreRanked}
use Rattle.commit_graph.specs.Node.{held_of}
use Rattle.commit_graph.specs.Uncovering.{Ids, Row, row_cmp, row_of, IsRow, counted_ids}
use Rattle.commit_graph.specs.Walk.{same_name, is_in}
use Rattle.commit_graph.proofs.ChainLemmas.{reach_all}
use Rattle.commit_graph.proofs.ClosureLemmas.{at_place}
use Rattle.commit_graph.proofs.OrderLemmas.{names_equiv, names_exact}
use Rattle.commit_graph.proofs.SettlingLemmas.{test_cases}
use Rattle.commit_graph.proofs.WalkLemmas.{either, left_of, right_of, is_in-place, is_in-contains}

rows_total : IsTotalOrder row_cmp
rows_total = then_total (on_total (λ (row : Row). row.0) nat_cmp_total) (on_total (λ (row : Row). row.1) nat_list_cmp_total)

rows_exact : CmpEqualImpliesEq row_cmp
rows_exact = exact_pairs nat_cmp name_cmp exact_unsigned exact_bytes

rows_equiv : IsEquivalence (eq_by_cmp row_cmp)
rows_equiv = eq_by_cmp_equiv rows_total

-- the rows with one more, where there is one
abbrev pub with_row : List Row → Option Row → List Row
with_row rows None = rows
with_row rows (Some row) = insert_key row_cmp rows row

-- the rows of these commits that are near and aren't covered
abbrev pub rows_of : Ids → Ids → List (Name × Node) → List Row
rows_of near covered nodes = fold (λ (rows : List Row) (e : Name × Node). with_row rows (row_of near covered e.0 e.1.level)) [] nodes

-- one more row, after these commits
pub rows_push : (near covered : Ids) (nodes : List (Name × Node)) (e : Name × Node) (old new : List Row) (row : Row) → old ≡ rows_of near covered nodes → Some row ≡ row_of near covered e.0 e.1.level → new ≡ insert_key row_cmp old row → new ≡ rows_of near covered (nodes ++ e ∷ [])
rows_push near covered nodes e old new row before is put =
    put ∙ ap (λ rows. insert_key row_cmp rows row) before ∙ ap (with_row (rows_of near covered nodes)) is
    ∙ sym (fold-append (λ (rows : List Row) (e : Name × Node). with_row rows (row_of near covered e.0 e.1.level)) [] nodes (e ∷ []))

-- ---- what is in the rows
All-with_row : (P : Row → Type 0) (rows : List Row) (row : Option Row) → All P rows → MatchOption row (Unit {0}) P → All P (with_row rows row)
All-with_row P rows None all one = all
All-with_row P rows (Some row) all one = All-insert_key row_cmp row P rows all one

has_itself : (row : Row) (rows : List Row) → list_any (eq_by_cmp row_cmp row) (insert_key row_cmp rows row) ≡ true
has_itself row [] = left_of (eq_by_cmp row_cmp row row) false (rows_equiv.refl row)
has_itself row (x ∷ rows) = by (has_itself row rows) (row_cmp row x) refl
  where
    by : list_any (eq_by_cmp row_cmp row) (insert_key row_cmp rows row) ≡ true → (o : Ordering) → row_cmp row x ≡ o → list_any (eq_by_cmp row_cmp row) (match_ordering o (row ∷ x ∷ rows) (x ∷ rows) (x ∷ insert_key row_cmp rows row)) ≡ true
    by later Less e = left_of (eq_by_cmp row_cmp row row) (list_any (eq_by_cmp row_cmp row) (x ∷ rows)) (rows_equiv.refl row)
    by later Equal e = left_of (eq_by_cmp row_cmp row x) (list_any (eq_by_cmp row_cmp row) rows) (ap is_eq e)
    by later Greater e = right_of (eq_by_cmp row_cmp row x) (list_any (eq_by_cmp row_cmp row) (insert_key row_cmp rows row)) later

has_still : (q row : Row) (rows : List Row) → list_any (eq_by_cmp row_cmp q) rows ≡ true → list_any (eq_by_cmp row_cmp q) (insert_key row_cmp rows row) ≡ true
has_still q row [] h = absurd (true≢false (sym h))
has_still q row (x ∷ rows) h = by (has_still q row rows) (row_cmp row x)
  where
    by : (list_any (eq_by_cmp row_cmp q) rows ≡ true → list_any (eq_by_cmp row_cmp q) (insert_key row_cmp rows row) ≡ true) → (o : Ordering) → list_any (eq_by_cmp row_cmp q) (match_ordering o (row ∷ x ∷ rows) (x ∷ rows) (x ∷ insert_key row_cmp rows row)) ≡ true
    by later Less = right_of (eq_by_cmp row_cmp q row) (list_any (eq_by_cmp row_cmp q) (x ∷ rows)) h
    by later Equal = h
    by later Greater = elim (either (eq_by_cmp row_cmp q x) (list_any (eq_by_cmp row_cmp q) rows) h) as (λ _. (eq_by_cmp row_cmp q x || list_any (eq_by_cmp row_cmp q) (insert_key row_cmp rows row)) ≡ true) [
      | inl here ↦ left_of (eq_by_cmp row_cmp q x) (list_any (eq_by_cmp row_cmp q) (insert_key row_cmp rows row)) here
      | inr there ↦ right_of (eq_by_cmp row_cmp q x) (list_any (eq_by_cmp row_cmp q) (insert_key row_cmp rows row)) (later there)
    ]

with_row_has : (q : Row) (rows : List Row) (row : Option Row) → (list_any (eq_by_cmp row_cmp q) rows ≡ true) ⊎ (row ≡ Some q) → list_any (eq_by_cmp row_cmp q) (with_row rows row) ≡ true
with_row_has q rows None (inl h) = h
with_row_has q rows None (inr h) = absurd (no h)
  where
    no : None ≡ Some q → ⊥
    no e = cc
with_row_has q rows (Some row) (inl h) = has_still q row rows h
with_row_has q rows (Some row) (inr h) = subst (λ x. list_any (eq_by_cmp row_cmp q) (insert_key row_cmp rows x) ≡ true) (sym (same row q h)) (has_itself q rows)
  where
    same : (x y : Row) → Some x ≡ Some y → x ≡ y
    same x y e = cc

-- each row is that of one of the commits
all_rows : (near covered : Ids) (P : Row → Type 0) (nodes : List (Name × Node)) (rows : List Row) → All (λ (e : Name × Node). MatchOption (row_of near covered e.0 e.1.level) (Unit {0}) P) nodes → All P rows → All P (fold (λ (rows : List Row) (e : Name × Node). with_row rows (row_of near covered e.0 e.1.level)) rows nodes)
all_rows near covered P [] rows each all = all
all_rows near covered P (e ∷ nodes) rows each all =
    let first : MatchOption (row_of near covered e.0 e.1.level) (Unit {0}) P = each 0 e (omega arith) in
    all_rows near covered P nodes (with_row rows (row_of near covered e.0 e.1.level)) (λ k d low. each (suc k) d (omega (arith, low))) (All-with_row P rows (row_of near covered e.0 e.1.level) all first)

-- a row that was there, or is that of one of the commits, is there
any_row : (near covered : Ids) (q : Row) (nodes : List (Name × Node)) (rows : List Row) → (list_any (eq_by_cmp row_cmp q) rows ≡ true) ⊎ ((e : Name × Node) × Contains nodes e × (row_of near covered e.0 e.1.level ≡ Some q)) → list_any (eq_by_cmp row_cmp q) (fold (λ (rows : List Row) (e : Name × Node). with_row rows (row_of near covered e.0 e.1.level)) rows nodes) ≡ true
any_row near covered q [] rows (inl h) = h
any_row near covered q [] rows (inr h) = absurd (omega (arith, h.1.1))
any_row near covered q (x ∷ nodes) rows (inl h) = any_row near covered q nodes (with_row rows (row_of near covered x.0 x.1.level)) (inl (with_row_has q rows (row_of near covered x.0 x.1.level) (inl h)))
any_row near covered q (x ∷ nodes) rows (inr h) = any_row near covered q nodes (with_row rows (row_of near covered x.0 x.1.level)) (later h.1.0 h.1.1 h.1.2)
  where
    later : (k : ℕ) → k < length (x ∷ nodes) → slice_index_or (x ∷ nodes) k h.0 ≡ h.0 → (list_any (eq_by_cmp row_cmp q) (with_row rows (row_of near covered x.0 x.1.level)) ≡ true) ⊎ ((e : Name × Node) × Contains nodes e × (row_of near covered e.0 e.1.level ≡ Some q))
    later zero low at = inl (with_row_has q rows (row_of near covered x.0 x.1.level) (inr (ap (λ (e : Name × Node). row_of near covered e.0 e.1.level) at ∙ h.2)))
    later (suc k) low at = inr (h.0, (k, omega (arith, low), at), h.2)

row_is : (nodes : List (Name × Node)) (near covered : Ids) (id : Name) (l : Level) → level_at nodes id ≡ Some l → MatchOption (row_of near covered id l) (Unit {0}) (IsRow nodes near covered)
row_is nodes near covered id Unknown at = tt
row_is nodes near covered id Entered at = tt
row_is nodes near covered id Endless at = tt
row_is nodes near covered id (Known n) at = by (set.contains near id) (set.contains covered id) refl refl
  where
    by : (x y : Bool) → set.contains near id ≡ x → set.contains covered id ≡ y → MatchOption (cond (x && not y) (Some (n, id)) None) (Unit {0}) (IsRow nodes near covered)
    by true true a b = tt
    by true false a b = record { generation = at; within = a; bare = b }
    by false covers a b = tt

-- the rows are those of commits that are near and bare
pub rows_sound : (nodes : List (Name × Node)) (near covered : Ids) → All (λ e. node_at nodes e.0 ≡ Some e.1) nodes → All (IsRow nodes near covered) (rows_of near covered nodes)
rows_sound nodes near covered found =
    all_rows near covered (IsRow nodes near covered) nodes []
    (λ k d low. let e : Name × Node = slice_index_or nodes k d in row_is nodes near covered e.0 e.1.level (ap (option_map level_of) (found k d low)))
    (λ k d low. absurd (omega (arith, low)))

-- and all of them
pub rows_complete : (nodes : List (Name × Node)) (near covered : Ids) (row : Row) → IsRow nodes near covered row → Contains (rows_of near covered nodes) row
rows_complete nodes near covered row is =
    let node = node_with (node_at nodes row.1) (Known row.0) refl is.generation in
    Contains-from_any (tells_apart rows_exact) row (rows_of near covered nodes)
    (any_row near covered row nodes [] (inr ((row.1, node.0), Contains-from_lookup names_exact row.1 node.0 nodes node.1, ap (row_of near covered row.1) node.2 ∙ there)))
  where
    node_with : (o : Option Node) (l : Level) → node_at nodes row.1 ≡ o → option_map level_of o ≡ Some l → (n : Node) × (node_at nodes row.1 ≡ Some n) × (n.level ≡ l)
    node_with None l e h = absurd (none h)
      where
        none : None ≡ Some l → ⊥
        none e = cc
    node_with (Some n) l e h = (n, e, same n.level l h)
      where
        same : (x y : Level) → Some x ≡ Some y → x ≡ y
        same x y e = cc

    there : row_of near covered row.1 (Known row.0) ≡ Some row
    there = ap (λ b. cond {A = Option Row} (b && not (set.contains covered row.1)) (Some row) None) is.within ∙ ap (λ b. cond {A = Option Row} (not b) (Some row) None) is.bare

-- ---- what is reached, and what is covered
reaches_held : (held : Commits) (a b : Name) → IsWhole held → Holds held a → Reaches (IsParent held) a b → Holds held b
reaches_held held a b whole at r = reach_all (Holds held) (λ c p there parent. whole c p parent) at r

pub one_held : (held : Commits) (id : Name) → Holds held id → All (Holds held) (id ∷ [])
one_held held id at zero d low = at
one_held held id at (suc k) d low = absurd (omega (arith, low))

one_listed : (id q : Name) → Contains (id ∷ []) q → id ≡ q
one_listed id q (zero, low, at) = at
one_listed id q (suc k, low, at) = absurd (omega (arith, low))

-- what one commit reaches
reached_from_one : (held : Commits) (id q : Name) → IsReachedFrom held (id ∷ []) q ↔ Reaches (IsParent held) id q
reached_from_one held id q = (
  λ r. subst (λ x. Reaches (IsParent held) x q) (sym (one_listed id r.from r.listed)) r.reaches,
  λ r. record { from = id; listed = (0, omega arith, refl); reaches = r },
)

-- the marks are what the commit reaches
abbrev pub AreReached : Commits → Name → Ids → Type 0
AreReached held id marks = (q : Name) → IsTrue (set.contains marks q) ↔ Reaches (IsParent held) id q

pub one_reached : {E : Type 0} (held : Commits) (id : Name) (ids : List Name) (r : Result Ids E) → ids ≡ id ∷ [] → IfOk r (λ marks. (q : Name) → IsTrue (set.contains marks q) ↔ IsReachedFrom held ids q) → IfOk r (AreReached held id)
one_reached held id ids (Err e) one h = tt
one_reached held id ids (Ok marks) one h = λ q.
    let reached : IsTrue (set.contains marks q) ↔ IsReachedFrom held (id ∷ []) q = subst (λ xs. IsTrue (set.contains marks q) ↔ IsReachedFrom held xs q) one (h q) in
    let from = reached_from_one held id q in
    (λ t. from.0 (reached.0 t), λ r. reached.1 (from.1 r))

is_in-filter : (p : Name → Bool) (xs : List Name) (q : Name) → is_in (filter p xs) q ≡ (p q && is_in xs q)
is_in-filter p [] q = sym (and_false (p q))
  where
    and_false : (b : Bool) → (b && false) ≡ false
    and_false true = refl
    and_false false = refl
is_in-filter p (x ∷ xs) q = by (p x) (same_name q x) (is_in-filter p xs q) refl refl
  where
    kept : (a b : Bool) → (a ≡ true) → (a && (true || b)) ≡ true
    kept a b e = ap (λ c. c && (true || b)) e

    by : (b s : Bool) → is_in (filter p xs) q ≡ (p q && is_in xs q) → p x ≡ b → same_name q x ≡ s → is_in (cond b (x ∷ filter p xs) (filter p xs)) q ≡ (p q && (s || is_in xs q))
    by true true later e same = left_of (same_name q x) (is_in (filter p xs) q) same ∙ sym (kept (p q) (is_in xs q) (ap p (names_exact q x same) ∙ e))
    by true false later e same = ap (λ c. c || is_in (filter p xs) q) same ∙ later
    by false true later e same = later ∙ nothing (p q) (is_in xs q) (ap p (names_exact q x same) ∙ e)
      where
        nothing : (a b : Bool) → a ≡ false → (a && b) ≡ (a && (true || b))
        nothing true b e = absurd (true≢false e)
        nothing false b e = refl
    by false false later e same = later

-- an entry that is listed and that either history has
is_counted : (near far : Ids) (intro : Name) (entries : List Name) (q : Name) → is_in (counted_ids near far intro entries) q ≡ (same_name q intro || ((set.contains near q || set.contains far q) && is_in entries q))
is_counted near far intro entries q = ap (λ b. same_name q intro || b) (is_in-filter (λ entry. set.contains near entry || set.contains far entry) entries q)

both_of : (a b : Bool) → (a && b) ≡ true → (a ≡ true) × (b ≡ true)
both_of true b e = (refl, e)
both_of false b e = absurd (true≢false (sym e))

counted_cases : (near far : Ids) (intro : Name) (entries : List Name) (q : Name) → is_in (counted_ids near far intro entries) q ≡ true → (q ≡ intro) ⊎ (((set.contains near q ≡ true) ⊎ (set.contains far q ≡ true)) × Contains entries q)
counted_cases near far intro entries q t = elim (either (same_name q intro) ((set.contains near q || set.contains far q) && is_in entries q) (sym (is_counted near far intro entries q) ∙ t)) [
  | inl same ↦ inl (names_exact q intro same)
  | inr h ↦ let parts = both_of (set.contains near q || set.contains far q) (is_in entries q) h in inr (either (set.contains near q) (set.contains far q) parts.0, is_in-place entries q parts.1)
]

-- they are held
pub counted_held : (held : Commits) (target intro : Name) (entries : List Name) (near far : Ids) → IsWhole held → Holds held target → Holds held intro → AreReached held target near → AreReached held intro far → All (Holds held) (counted_ids near far intro entries)
counted_held held target intro entries near far whole at_target at_intro near_is far_is k d low =
    let q : Name = slice_index_or (counted_ids near far intro entries) k d in
    let listed : is_in (counted_ids near far intro entries) q ≡ true = at_place (counted_ids near far intro entries) k d low in
    elim (counted_cases near far intro entries q listed) as (λ _. Holds held (slice_index_or (counted_ids near far intro entries) k d)) [
      | inl same ↦ subst (Holds held) (sym same) at_intro
      | inr h ↦ ⊎_elim
          (λ n. reaches_held held target q whole at_target ((near_is q).0 n))
          (λ f. reaches_held held intro q whole at_intro ((far_is q).0 f))
          h.0
    ]

-- what they reach is what is covered
covers : (held : Commits) (target intro : Name) (entries : List Name) (near far : Ids) → AreReached held target near → AreReached held intro far → (q : Name) → IsReachedFrom held (counted_ids near far intro entries) q ↔ IsCovered (IsParent held) target intro entries q
covers held target intro entries near far near_is far_is q = (
  λ r. elim (counted_cases near far intro entries r.from (is_in-contains (counted_ids near far intro entries) r.from r.listed)) as (λ _. IsCovered (IsParent held) target intro entries q) [
    | inl same ↦ inl (subst (λ x. Reaches (IsParent held) x q) same r.reaches)
    | inr h ↦ inr (record { entry = r.from; listed = h.1; counts = ⊎_elim (λ n. inl ((near_is r.from).0 n)) (λ f. inr ((far_is r.from).0 f)) h.0; reaches = r.reaches })
  ],
  λ c. ⊎_elim
      (λ r. record { from = intro; listed = is_in-place (counted_ids near far intro entries) intro (is_counted near far intro entries intro ∙ left_of (same_name intro intro) ((set.contains near intro || set.contains far intro) && is_in entries intro) (names_equiv.refl intro)); reaches = r })
      (λ e. record { from = e.entry; listed = is_in-place (counted_ids near far intro entries) e.entry (is_counted near far intro entries e.entry ∙ right_of (same_name e.entry intro) ((set.contains near e.entry || set.contains far e.entry) && is_in entries e.entry) (both (counted_one e.entry e.counts) (is_in-contains entries e.entry e.listed))); reaches = e.reaches })
      c,
)
  where
    both : {a b : Bool} → a ≡ true → b ≡ true → (a && b) ≡ true
    both {a} {b} e f = ap (λ x. x && b) e ∙ f

    counted_one : (entry : Name) → (Reaches (IsParent held) target entry ⊎ Reaches (IsParent held) intro entry) → (set.contains near entry || set.contains far entry) ≡ true
    counted_one entry c = ⊎_elim
        (λ r. left_of (set.contains near entry) (set.contains far entry) ((near_is entry).1 r))
        (λ r. right_of (set.contains near entry) (set.contains far entry) ((far_is entry).1 r))
        c

-- ---- the list
-- a row before another has a lesser generation, or the same and a lesser id
row_before : (a b : Row) → row_cmp a b ≡ Less → (a.0 < b.0) ⊎ ((a.0 ≡ b.0) × (name_cmp a.1 b.1 ≡ Less))
row_before a b less = by (nat_cmp a.0 b.0) (ranked a.0 b.0 (nat_cmp a.0 b.0) refl) less
  where
    by : (o : Ordering) → MatchOrdering o (a.0 < b.0) (a.0 ≡ b.0) (b.0 < a.0) → ordering_then o (name_cmp a.1 b.1) ≡ Less → (a.0 < b.0) ⊎ ((a.0 ≡ b.0) × (name_cmp a.1 b.1 ≡ Less))
    by Less h e = inl h
    by Equal h e = inr (h, e)
    by Greater h e = absurd (no e)
      where
        no : Greater ≡ Less → ⊥
        no e = cc

-- what is known of each commit of a ranked graph
abbrev pub AllRanked : List (Name × Node) → Commits → Type 0
AllRanked nodes held = (id : Name) → Holds held id → (n : ℕ) × (level_at nodes id ≡ Some (Known n)) × IsGeneration (IsParent held) id n

known_there : (nodes : List (Name × Node)) (held : Commits) (room : ℕ) → held_of nodes ≡ held → AreRanked nodes room → AllRanked nodes held
known_there nodes held room is ranks = subst (AllRanked nodes) is ranks.known

pub whole_there : (nodes : List (Name × Node)) (held : Commits) (room : ℕ) → held_of nodes ≡ held → AreRanked nodes room → IsWhole held
whole_there nodes held room is ranks = subst IsWhole is ranks.whole

-- the ids of the rows are what is uncovered, in order
uncovered_ids : (nodes : List (Name × Node)) (held : Commits) (room : ℕ) (target intro : Name) (entries : List Name) (near far covered : Ids) (rows : List Row) (ids : List Name) → held_of nodes ≡ held → AreRanked nodes room → Holds held target → AreReached held target near → AreReached held intro far
    → ((q : Name) → IsTrue (set.contains covered q) ↔ IsReachedFrom held (counted_ids near far intro entries) q)
    → All (IsRow nodes near covered) rows → ((row : Row) → IsRow nodes near covered row → Contains rows row) → IsStrictlySortedBy row_cmp rows
    → ids ≡ map (λ (row : Row). row.1) rows → AreUncovered (IsParent held) target intro entries ids
uncovered_ids nodes held room target intro entries near far covered rows ids is ranks at near_is far_is covered_is sound complete sorted named = subst (AreUncovered (IsParent held) target intro entries) (sym named) (record {
  reached = λ k d low. subst (Reaches (IsParent held) target) (sym (there k d low)) ((near_is (row_at k d).1).0 (row_is_at k d low).within);
  bare = λ k d low. subst (λ q. IsCovered (IsParent held) target intro entries q → ⊥) (sym (there k d low)) (λ c. true≢false (sym ((covered_is (row_at k d).1).1 ((covers held target intro entries near far near_is far_is (row_at k d).1).1 c)) ∙ (row_is_at k d low).bare));
  complete = λ c r. elim (test_cases (set.contains covered c)) [
    | inl within ↦ inr ((covers held target intro entries near far near_is far_is c).0 ((covered_is c).0 within))
    | inr apart ↦ inl (listed c r apart)
  ];
  order = λ i j d before low. subst (λ x. ComesBefore (IsParent held) x (slice_index_or (map (λ (row : Row). row.1) rows) j d)) (sym (there i d (omega (arith, before, low))))
      (subst (ComesBefore (IsParent held) (row_at i d).1) (sym (there j d low))
      (record {
        first = (row_at i d).0;
        second = (row_at j d).0;
        first_is = generation_at i d (omega (arith, before, low));
        second_is = generation_at j d low;
        before = row_before (row_at i d) (row_at j d) (Less-from_sorted row_cmp rows i j (0, d) sorted before (size j low));
      }));
})
  where
    row_at : ℕ → Name → Row
    row_at k d = slice_index_or rows k (0, d)

    size : (k : ℕ) → k < length (map (λ (row : Row). row.1) rows) → k < length rows
    size k low = omega (arith, low, length-map {B = Name} rows (λ (row : Row). row.1))

    there : (k : ℕ) (d : Name) → k < length (map (λ (row : Row). row.1) rows) → slice_index_or (map (λ (row : Row). row.1) rows) k d ≡ (slice_index_or rows k (0, d)).1
    there k d low = get_or-map (λ (row : Row). row.1) rows k (0, d) d (size k low)

    row_is_at : (k : ℕ) (d : Name) → k < length (map (λ (row : Row). row.1) rows) → IsRow nodes near covered (slice_index_or rows k (0, d))
    row_is_at k d low = sound k (0, d) (size k low)

    same_known : (n m : ℕ) → Some (Known n) ≡ Some (Known m) → n ≡ m
    same_known n m e = cc

    generation_at : (k : ℕ) (d : Name) → k < length (map (λ (row : Row). row.1) rows) → IsGeneration (IsParent held) (slice_index_or rows k (0, d)).1 (slice_index_or rows k (0, d)).0
    generation_at k d low =
        let row : Row = slice_index_or rows k (0, d) in
        let is_row : IsRow nodes near covered row = row_is_at k d low in
        let known = known_there nodes held room is ranks row.1 (reaches_held held target row.1 (whole_there nodes held room is ranks) at ((near_is row.1).0 is_row.within)) in
        subst (IsGeneration (IsParent held) row.1) (same_known known.0 row.0 (sym known.1 ∙ is_row.generation)) known.2

    listed : (c : Name) → Reaches (IsParent held) target c → set.contains covered c ≡ false → Contains (map (λ (row : Row). row.1) rows) c
    listed c r apart =
        let known = known_there nodes held room is ranks c (reaches_held held target c (whole_there nodes held room is ranks) at r) in
        let place = complete (known.0, c) (record { generation = known.1; within = (near_is c).1 r; bare = apart }) in
        (place.0, omega (arith, place.1, length-map {B = Name} rows (λ (row : Row). row.1)), get_or-map (λ (row : Row). row.1) rows place.0 (known.0, c) c place.1 ∙ ap (λ (row : Row). row.1) place.2)

pub uncovered_result : {E : Type 0} (nodes : List (Name × Node)) (held : Commits) (room : ℕ) (target intro : Name) (entries kept : List Name) (near far covered : Ids) (rows : List Row) (r : Result (List Name) E) → held_of nodes ≡ held → AreRanked nodes room → Holds held target → AreReached held target near → AreReached held intro far
    → kept ≡ counted_ids near far intro entries → ((q : Name) → IsTrue (set.contains covered q) ↔ IsReachedFrom held kept q)
    → All (IsRow nodes near covered) rows → ((row : Row) → IsRow nodes near covered row → Contains rows row) → IsStrictlySortedBy row_cmp rows
    → IfOk r (λ ids. ids ≡ map (λ (row : Row). row.1) rows) → IfOk r (AreUncovered (IsParent held) target intro entries)
uncovered_result nodes held room target intro entries kept near far covered rows (Err e) is ranks at near_is far_is counts covered_is sound complete sorted named = tt
uncovered_result nodes held room target intro entries kept near far covered rows (Ok ids) is ranks at near_is far_is counts covered_is sound complete sorted named =
    uncovered_ids nodes held room target intro entries near far covered rows ids is ranks at near_is far_is
    (subst (λ xs. (q : Name) → IsTrue (set.contains covered q) ↔ IsReachedFrom held xs q) counts covered_is) sound complete sorted named
