-- What a walk over a history keeps. No public clause cites it.
use Rattle.std.specs.Prelude.{◌≡◌, ℕ, ◌<◌, ◌≤◌, Bool, true, cond, List, [], ◌∷◌, ◌++◌, length, fold, slice_index_or, unwrap_or}
use Rattle.std.specs.List.{IsDistinct}
use Rattle.std.specs.Ordering.{eq_by_cmp}
use Rattle.std.specs.Set.{is_member}
use Rattle.std.specs.BTreeSet.{BTreeSet, contains}
use Rattle.std.specs.FinMap as map
use Rattle.commit_graph.specs.History.{Commits, Name, name_cmp, Holds, IsReachedFrom}

abbrev pub same_name : Name → Name → Bool
same_name = eq_by_cmp name_cmp

-- whether the id is in the list
abbrev pub is_in : List Name → Name → Bool
is_in ids id = is_member same_name ids id

-- the list with the id at its end, unless it is there
abbrev pub put_new : List Name → Name → List Name
put_new ids id = cond (is_in ids id) ids (ids ++ id ∷ [])

-- the list with each of the ids
abbrev pub put_all : List Name → List Name → List Name
put_all ids more = fold put_new ids more

-- the set has the members of the list, which are distinct
pub record AreMarked (order : List Name) (seen : BTreeSet Name) : Type 0 where
  pub distinct : IsDistinct same_name order
  pub members : (id : Name) → contains name_cmp seen id ≡ is_in order id

-- the parents of a commit, none where it isn't held
abbrev pub parents_in : Commits → Name → List Name
parents_in held id = unwrap_or (map.get held id) []

-- the ids in order reach from the roots, and the parents of the first i of them are there too
pub record IsWalk (commits : Commits) (roots order : List Name) (i : ℕ) : Type 0 where
  pub low : i ≤ length order
  pub distinct : IsDistinct same_name order
  pub sound : (id : Name) → is_in order id ≡ true → IsReachedFrom commits roots id
  pub held : (id : Name) → is_in order id ≡ true → Holds commits id
  pub rooted : (id : Name) → is_in roots id ≡ true → is_in order id ≡ true
  pub closed : (k : ℕ) (d p : Name) → k < i → is_in (parents_in commits (slice_index_or order k d)) p ≡ true → is_in order p ≡ true
