-- A walk grows, and ends with what its roots reach.
use Rattle.std.proofs.Common.{◌≡◌, Bool, true, false, cond, ◌||◌, List, [], ◌∷◌, ◌++◌, refl, sym, ap, ◌∙◌, Option, Some, None, Contains, ◌⊎◌, inl, inr, append_assoc}
use Rattle.std.specs.List.{IsDistinct}
use Rattle.std.specs.Option.{unwrap_or}
use Rattle.std.specs.BTreeSet.{BTreeSet, contains}
use Rattle.std.specs.FinMap as fin
use Rattle.std.proofs.lemmas.Bool.{true≢false}
use Rattle.std.proofs.lemmas.List.Folds.{list_any-append}
use Rattle.std.proofs.lemmas.Map.Keys.{IsDistinct-push}
use Rattle.std.proofs.lemmas.Map.Views.{Contains-from_any, list_any-from_Contains}
use Rattle.commit_graph.specs.History.{Commits, Name, name_cmp, IsParent}
use Rattle.commit_graph.specs.Walk.{same_name, is_in, put_new, put_all, AreMarked, parents_in}
use Rattle.commit_graph.proofs.OrderLemmas.{names_equiv, names_exact}

or_false : (a b : Bool) → (a || (b || false)) ≡ (a || b)
or_false true b = refl
or_false false true = refl
or_false false false = refl

pub is_in-push : (ids : List Name) (id q : Name) → is_in (ids ++ id ∷ []) q ≡ (is_in ids q || same_name q id)
is_in-push ids id q = list_any-append (same_name q) ids (id ∷ []) ∙ or_false (is_in ids q) (same_name q id)

turned : (a b : Bool) → cond a true b ≡ (b || a)
turned true true = refl
turned true false = refl
turned false true = refl
turned false false = refl

-- the set and the list take the same new member
pub marked-push : (order : List Name) (seen new : BTreeSet Name) (id : Name) → AreMarked order seen → contains name_cmp seen id ≡ false → ((q : Name) → contains name_cmp new q ≡ cond (same_name id q) true (contains name_cmp seen q)) → AreMarked (order ++ id ∷ []) new
marked-push order seen new id h absent put = record {
  distinct = IsDistinct-push names_equiv order id h.distinct (sym (h.members id) ∙ absent);
  members = λ q. put q ∙ turned (same_name id q) (contains name_cmp seen q)
      ∙ ap (λ b. b || same_name id q) (h.members q) ∙ ap (λ b. is_in order q || b) (names_equiv.symm id q)
      ∙ sym (is_in-push order id q);
}

-- what a list has after more ids were added
pub record Adds (old more new : List Name) : Type 0 where
  pub rest : List Name
  pub grown : new ≡ old ++ rest
  pub members : (q : Name) → is_in new q ≡ (is_in old q || is_in more q)
  pub distinct : IsDistinct same_name old → IsDistinct same_name new

absorbed : (old : List Name) (id q : Name) (b : Bool) → same_name q id ≡ b → is_in old id ≡ true → is_in old q ≡ (is_in old q || b)
absorbed old id q true e h = let t : is_in old q ≡ true = ap (is_in old) (names_exact q id e) ∙ h in t ∙ sym (ap (λ b. b || true) t)
absorbed old id q false e h = sym (or_nothing (is_in old q))
  where
    or_nothing : (b : Bool) → (b || false) ≡ b
    or_nothing true = refl
    or_nothing false = refl

nil_append : (xs : List Name) → xs ≡ xs ++ []
nil_append [] = refl
nil_append (x ∷ xs) = ap (λ ys. x ∷ ys) (nil_append xs)

put_new-adds : (old : List Name) (id : Name) (b : Bool) → is_in old id ≡ b → Adds old (id ∷ []) (cond b old (old ++ id ∷ []))
put_new-adds old id true e = record {
  rest = [];
  grown = nil_append old;
  members = λ q. absorbed old id q (same_name q id) refl e ∙ sym (or_false (is_in old q) (same_name q id));
  distinct = λ d. d;
}
put_new-adds old id false e = record {
  rest = id ∷ [];
  grown = refl;
  members = λ q. is_in-push old id q ∙ sym (or_false (is_in old q) (same_name q id));
  distinct = λ d. IsDistinct-push names_equiv old id d e;
}

or_assoc : (a b c : Bool) → ((a || (b || false)) || c) ≡ (a || (b || c))
or_assoc true b c = refl
or_assoc false true c = refl
or_assoc false false c = refl

or_empty : (b : Bool) → b ≡ (b || false)
or_empty true = refl
or_empty false = refl

-- `put_all` adds all
pub put_all-adds : (old more : List Name) → Adds old more (put_all old more)
put_all-adds old [] = record { rest = []; grown = nil_append old; members = λ q. or_empty (is_in old q); distinct = λ d. d }
put_all-adds old (id ∷ more) =
    let one = put_new-adds old id (is_in old id) refl in
    let others = put_all-adds (put_new old id) more in
    record {
      rest = one.rest ++ others.rest;
      grown = others.grown ∙ ap (λ xs. xs ++ others.rest) one.grown ∙ append_assoc old one.rest others.rest;
      members = λ q. others.members q ∙ ap (λ b. b || is_in more q) (one.members q) ∙ or_assoc (is_in old q) (same_name q id) (is_in more q);
      distinct = λ d. others.distinct (one.distinct d);
    }

pub either : (a b : Bool) → (a || b) ≡ true → (a ≡ true) ⊎ (b ≡ true)
either true b e = inl refl
either false b e = inr e

pub left_of : (a b : Bool) → a ≡ true → (a || b) ≡ true
left_of true b e = refl
left_of false b e = cc

pub right_of : (a b : Bool) → b ≡ true → (a || b) ≡ true
right_of true b e = refl
right_of false b e = e

-- in a list by test, and by place
pub is_in-place : (ids : List Name) (q : Name) → is_in ids q ≡ true → Contains ids q
is_in-place ids q e = Contains-from_any names_exact q ids e

pub is_in-contains : (ids : List Name) (q : Name) → Contains ids q → is_in ids q ≡ true
is_in-contains ids q h = list_any-from_Contains names_equiv q ids h

some_parent : (h : Commits) (c p : Name) (o : Option (List Name)) → fin.get h c ≡ o → is_in (unwrap_or o []) p ≡ true → IsParent h c p
some_parent h c p None e t = absurd (true≢false (sym t))
some_parent h c p (Some parents) e t = record { parents = parents; given = e; listed = is_in-place parents p t }

-- the parents in a list, and by definition
pub parent_of : (h : Commits) (c p : Name) → is_in (parents_in h c) p ≡ true → IsParent h c p
parent_of h c p t = some_parent h c p (fin.get h c) refl t

pub of_parent : (h : Commits) (c p : Name) → IsParent h c p → is_in (parents_in h c) p ≡ true
of_parent h c p parent = ap (λ o. is_in (unwrap_or o []) p) parent.given ∙ is_in-contains parent.parents p parent.listed

-- nothing is marked
pub marked-none : (seen : BTreeSet Name) → seen.keys ≡ [] → AreMarked [] seen
unfolding IsDistinct
marked-none seen e = record { distinct = tt; members = λ id. ap (λ keys. is_in keys id) e }
