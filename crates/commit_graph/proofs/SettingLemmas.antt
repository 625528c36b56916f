-- What it does to a map of nodes to set one level, or one place.
use Rattle.std.proofs.Common.{◌≡◌, ℕ, ◌+◌, Bool, true, false, cond, List, [], ◌∷◌, length, Option, Some, None, refl, sym, ap, ◌∙◌, subst, arith}
use Rattle.std.specs.Option.{option_map, IsSome}
use Rattle.std.specs.Map.{lookup, set_value}
use Rattle.std.specs.BTreeMap.{BTreeMap, is_at, WritesThrough}
use Rattle.std.proofs.lemmas.Map.{length-set_value}
use Rattle.commit_graph.specs.declared.node.Node.{Node}
use Rattle.commit_graph.specs.declared.level.Level.{Level}
use Rattle.commit_graph.specs.History.{Name, name_cmp}
use Rattle.commit_graph.specs.Node.{held_of}
use Rattle.commit_graph.specs.Walk.{same_name}
use Rattle.commit_graph.specs.Reaching.{place_of, OnlyPlaces}
use Rattle.commit_graph.specs.Level.{node_at, level_of, level_at, total, SetsLevel}
use Rattle.commit_graph.proofs.HeldLemmas.{parents_of, held-same}
use Rattle.commit_graph.proofs.OrderLemmas.{names_exact}

mapped_id : {A : Type 0} (o : Option A) → o ≡ option_map (λ x. x) o
mapped_id None = refl
mapped_id (Some x) = refl

mapped_twice : {A B C : Type 0} (f : A → B) (g : B → C) (o : Option A) → option_map g (option_map f o) ≡ option_map (λ x. g (f x)) o
mapped_twice f g None = refl
mapped_twice f g (Some x) = refl

-- at one id the new node, with f as it was but at that id
one_set : {X : Type 0} (f : Node → X) (w v : Node) (to : X) (b : Bool) (o : Option Node) → f w ≡ to → (b ≡ true → o ≡ Some v) → option_map f (cond b (Some w) o) ≡ option_map (λ before. cond b to before) (option_map f o)
one_set f w v to true o e h = ap Some e ∙ sym (ap (λ x. option_map (λ before. to) (option_map f x)) (h refl))
one_set f w v to false o e h = mapped_id (option_map f o)

one_kept : {X : Type 0} (f : Node → X) (w v : Node) (b : Bool) (o : Option Node) → f w ≡ f v → (b ≡ true → o ≡ Some v) → option_map f (cond b (Some w) o) ≡ option_map f o
one_kept f w v true o e h = ap Some e ∙ sym (ap (option_map f) (h refl))
one_kept f w v false o e h = refl

same_some : (x y : Node) → Some x ≡ Some y → x ≡ y
same_some x y e = cc

count_at : (weight : Level → ℕ) (test : Name → Bool) (b : Bool) (e : Name × Node) (nodes : List (Name × Node)) (v w : Node) → cond b (Some e.1) (lookup test nodes) ≡ Some v → (lookup test nodes ≡ Some v → total weight (set_value test nodes w) + weight v.level ≡ total weight nodes + weight w.level) → total weight (cond b ((e.0, w) ∷ nodes) (e ∷ set_value test nodes w)) + weight v.level ≡ total weight (e ∷ nodes) + weight w.level
count_at weight test true e nodes v w h ih = let same : weight e.1.level ≡ weight v.level = ap (λ (x : Node). weight x.level) (same_some e.1 v h) in omega arith
count_at weight test false e nodes v w h ih = let one = ih h in omega arith

-- how many aren't looked at yet
pub count-set_value : (weight : Level → ℕ) (test : Name → Bool) (nodes : List (Name × Node)) (v w : Node) → lookup test nodes ≡ Some v → total weight (set_value test nodes w) + weight v.level ≡ total weight nodes + weight w.level
count-set_value weight test [] v w h = cc
count-set_value weight test (e ∷ nodes) v w h = count_at weight test (test e.0) e nodes v w h (count-set_value weight test nodes v w)

some_of : {X : Type 0} (o : Option X) (x : X) → o ≡ Some x → IsSome o
some_of o x e = subst IsSome (sym e) refl

-- the node at an id that is the same
there : (nodes : List (Name × Node)) (id q : Name) (v : Node) → node_at nodes id ≡ Some v → same_name id q ≡ true → node_at nodes q ≡ Some v
there nodes id q v at same = ap (node_at nodes) (sym (names_exact id q same)) ∙ at

-- a node written with another level
pub sets_level : (old new : BTreeMap Name Node) (id : Name) (v w : Node) (to : Level) → node_at old.entries id ≡ Some v → parents_of w ≡ parents_of v → level_of w ≡ to → WritesThrough name_cmp (name_cmp id) old w new → SetsLevel old.entries new.entries id to
sets_level old new id v w to at parents level writes =
    let put = (writes.3 (some_of _ v at)).0 in
    record {
      levels = λ q. ap (option_map level_of) (put q) ∙ one_set level_of w v to (same_name id q) (node_at old.entries q) level (there old.entries id q v at);
      held = held-same old.entries new.entries (λ q. ap (option_map parents_of) (put q) ∙ one_kept parents_of w v (same_name id q) (node_at old.entries q) parents (there old.entries id q v at));
      size = ap length writes.0 ∙ length-set_value (is_at (name_cmp id)) old.entries w;
      count = λ weight before was.
          let same : level_of v ≡ before = level_is v before (sym (ap (option_map level_of) at) ∙ was) in
          ap (λ es. total weight es + weight before) writes.0
          ∙ ap (λ l. total weight (set_value (is_at (name_cmp id)) old.entries w) + weight l) (sym same)
          ∙ count-set_value weight (is_at (name_cmp id)) old.entries v w at
          ∙ ap (λ l. total weight old.entries + weight l) level;
    }
  where
    level_is : (x : Node) (l : Level) → Some (level_of x) ≡ Some l → level_of x ≡ l
    level_is x l e = cc

not_there : (nodes : List (Name × Node)) (id q : Name) (to : Level) (b : Bool) → same_name id q ≡ b → node_at nodes id ≡ None → level_at nodes q ≡ option_map (λ before. cond b to before) (level_at nodes q)
not_there nodes id q to true same at = let none : level_at nodes q ≡ None = ap (λ x. option_map level_of (node_at nodes x)) (sym (names_exact id q same)) ∙ ap (option_map level_of) at in none ∙ sym (ap (option_map (λ before. to)) none)
not_there nodes id q to false same at = mapped_id (level_at nodes q)

-- nothing to write to
pub sets_no_level : (old new : List (Name × Node)) (id : Name) (to : Level) → node_at old id ≡ None → new ≡ old → SetsLevel old new id to
sets_no_level old new id to at same = record {
  levels = λ q. ap (λ es. level_at es q) same ∙ not_there old id q to (same_name id q) refl at;
  held = ap held_of same;
  size = ap length same;
  count = λ weight before was. absurd (none_some before (sym (ap (option_map level_of) at) ∙ was));
}
  where
    none_some : (l : Level) → None ≡ Some l → ⊥
    none_some l e = cc

-- a node written with another place
pub sets_place : (old new : BTreeMap Name Node) (id : Name) (v w : Node) (place : ℕ) → node_at old.entries id ≡ Some v → parents_of w ≡ parents_of v → level_of w ≡ level_of v → place_of w ≡ place → WritesThrough name_cmp (name_cmp id) old w new
    → ((q : Name) → option_map place_of (node_at new.entries q) ≡ option_map (λ before. cond (same_name id q) place before) (option_map place_of (node_at old.entries q))) × OnlyPlaces old.entries new.entries
sets_place old new id v w place at parents level is writes =
    let put = (writes.3 (some_of _ v at)).0 in (
      λ q. ap (option_map place_of) (put q) ∙ one_set place_of w v place (same_name id q) (node_at old.entries q) is (there old.entries id q v at),
      record {
        held = held-same old.entries new.entries (λ q. ap (option_map parents_of) (put q) ∙ one_kept parents_of w v (same_name id q) (node_at old.entries q) parents (there old.entries id q v at));
        size = ap length writes.0 ∙ length-set_value (is_at (name_cmp id)) old.entries w;
        levels = λ q. ap (option_map level_of) (put q) ∙ one_kept level_of w v (same_name id q) (node_at old.entries q) level (there old.entries id q v at);
      },
    )
