-- How many commits there are, by those that are held.
use Rattle.std.proofs.Common.{◌≡◌, ℕ, ◌≤◌, Bool, true, false, ◌&&◌, ◌||◌, List, [], ◌∷◌, length, map, None, refl, sym, ap, ◌∙◌, arith, Contains, is_some, T}
use Rattle.std.specs.Ordering.{is_lt, is_eq}
use Rattle.std.specs.declared.cmp.Ordering.{Ordering}
use Rattle.std.specs.declared.cmp.Ordering.TheVariants.{Less, Equal, Greater}
use Rattle.std.specs.FinMap as fin
use Rattle.std.specs.FinMap.Entries.{is_sorted, below_all}
use Rattle.std.specs.List.{IsDistinct, AllByRecursion, list_any, slice_index_or}
use Rattle.std.proofs.lemmas.List.{length-map}
use Rattle.std.proofs.lemmas.List.Elements.{Contains-get_or, All-cons}
use Rattle.std.proofs.lemmas.Bool.{true≢false}
use Rattle.std.proofs.lemmas.Map.Keys.{apart_from_distinct}
use Rattle.commit_graph.specs.History.{Commits, Name, name_cmp, Holds}
use Rattle.commit_graph.specs.Walk.{same_name}
use Rattle.commit_graph.proofs.OrderLemmas.{names_equiv}
use Rattle.commit_graph.proofs.WalkLemmas.{is_in-place, is_in-contains}
use Rattle.commit_history.specs.Members.{AtMost, MoreThan}

-- the keys of the entries
abbrev names_of : List (Name × List Name) → List Name
names_of es = map (λ e. e.0) es

pub holds_key : (held : Commits) (c : Name) → Holds held c → Contains (fin.keys held) c
holds_key held c h = is_in-place (fin.keys held) c (sym (fin.contains_key-keys held c) ∙ h)

pub key_holds : (held : Commits) (c : Name) → Contains (fin.keys held) c → Holds held c
key_holds held c h = fin.contains_key-keys held c ∙ is_in-contains (fin.keys held) c h

pub count_keys : (held : Commits) → length (fin.keys held) ≡ fin.len held
count_keys held = length-map (fin.entries held) (λ e. e.0) ∙ sym (fin.len-entries held)

-- all that are such are held: at most so many
pub at_most : (held : Commits) (n : ℕ) (Is : Name → Type 0) → fin.len held ≤ n → ((c : Name) → Is c → Holds held c) → AtMost n Is
at_most held n Is few all = record {
  ids = fin.keys held;
  few = let count = count_keys held in omega arith;
  complete = λ c is. holds_key held c (all c is);
}

-- ---- the keys are different

both_of : (a b : Bool) → T (a && b) → T a × T b
both_of true b h = (tt, h)
both_of false b h = absurd h

less_apart : (r : Ordering) → T (is_lt r) → is_eq r ≡ false
less_apart Less h = refl
less_apart Equal h = absurd h
less_apart Greater h = absurd h

below_apart : (name : Name) (es : List (Name × List Name)) → T (below_all name_cmp name es) → AllByRecursion (λ y. same_name name y ≡ false) (names_of es)
below_apart name [] h = tt
below_apart name (e ∷ es) h =
    let parts = both_of (is_lt (name_cmp name e.0)) (below_all name_cmp name es) h in
    (less_apart (name_cmp name e.0) parts.0, below_apart name es parts.1)

sorted_distinct : (es : List (Name × List Name)) → T (is_sorted name_cmp es) → IsDistinct same_name (names_of es)
unfolding IsDistinct
sorted_distinct [] h = tt
sorted_distinct (e ∷ es) h =
    let parts = both_of (below_all name_cmp e.0 es) (is_sorted name_cmp es) h in
    (below_apart e.0 es parts.0, sorted_distinct es parts.1)

first_fails : (a b : Bool) → (a || b) ≡ false → (a ≡ false) × (b ≡ false)
first_fails true b e = absurd (true≢false e)
first_fails false b e = (refl, e)

none_passes : (test : Name → Bool) (ids : List Name) → list_any test ids ≡ false → AllByRecursion (λ y. test y ≡ false) ids
none_passes test [] e = tt
none_passes test (x ∷ ids) e = let fails = first_fails (test x) (list_any test ids) e in (fails.0, none_passes test ids fails.1)

-- the keys and one more
more_distinct : (held : Commits) (id : Name) → fin.get held id ≡ None → IsDistinct same_name (id ∷ fin.keys held)
unfolding IsDistinct
more_distinct held id absent =
    (none_passes (same_name id) (fin.keys held) (sym (fin.contains_key-keys held id) ∙ ap is_some absent), sorted_distinct (fin.entries held) (fin.entries_sorted held))

-- so many are held, all such, and one more is such: more than so many
pub more_than : (held : Commits) (n : ℕ) (id : Name) (Is : Name → Type 0) → fin.get held id ≡ None → fin.len held ≡ n → Is id → ((c : Name) → Holds held c → Is c) → MoreThan n Is
more_than held n id Is absent full is all = record {
  ids = id ∷ fin.keys held;
  many = let count = count_keys held in omega arith;
  different = λ i j d lt low e. true≢false
      (sym (names_equiv.refl (slice_index_or (id ∷ fin.keys held) i d))
      ∙ ap (same_name (slice_index_or (id ∷ fin.keys held) i d)) e
      ∙ apart_from_distinct same_name (id ∷ fin.keys held) i j d (more_distinct held id absent) lt low);
  such = All-cons Is id (fin.keys held) is (λ k d low. all (slice_index_or (fin.keys held) k d) (key_holds held (slice_index_or (fin.keys held) k d) (Contains-get_or (fin.keys held) k d low)));
}
