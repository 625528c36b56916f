-- A walk in a list of work that has room for each commit.
use Rattle.std.proofs.Common.{◌≡◌, ℕ, zero, suc, ◌+◌, ◌<◌, ◌≤◌, Bool, true, false, List, [], ◌∷◌, ◌++◌, length, take, Some, None, refl, sym, ap, ◌∙◌, subst, arith, All, Contains, inl, inr, length-append}
use Rattle.std.specs.Bool.{MatchBool}
use Rattle.std.specs.List.{IsDistinct, slice_index_or, slice_get}
use Rattle.std.specs.Map.{keys_of}
use Rattle.std.specs.Option.{IsSome, option_map, unwrap_or}
use Rattle.std.proofs.lemmas.Bool.{true≢false}
use Rattle.std.proofs.lemmas.List.{take_more}
use Rattle.std.proofs.lemmas.List.Sums.{fold-append}
use Rattle.std.proofs.lemmas.Map.Entries.{length-keys_of}
use Rattle.std.proofs.lemmas.Map.Keys.{IsDistinct-push}
use Rattle.std.proofs.lemmas.Map.Made.{length-le_from_is_member}
use Rattle.std.proofs.lemmas.Option.{get_or_from_slice_get, slice_get-get_or, slice_get_within}
use Rattle.commit_graph.specs.declared.node.Node.{Node}
use Rattle.commit_graph.specs.Chains.{Reaches, IsGeneration}
use Rattle.commit_graph.specs.History.{Name, Holds, IsParent, IsWhole, IsReachedFrom}
use Rattle.commit_graph.specs.Level.{node_at, IsKept}
use Rattle.commit_graph.specs.Node.{held_of}
use Rattle.commit_graph.specs.Reaching.{AreInPlace, HasSpace, OnlyPlaces}
use Rattle.commit_graph.specs.Walk.{same_name, is_in, put_new, put_all, parents_in, IsWalk}
use Rattle.commit_graph.proofs.ClosureLemmas.{walk_start, walk_step, walk_all, at_place}
use Rattle.commit_graph.proofs.HeldLemmas.{parents_of, get-held, is_some-held}
use Rattle.commit_graph.proofs.MissingLemmas.{in_one}
use Rattle.commit_graph.proofs.OrderLemmas.{names_equiv}
use Rattle.commit_graph.proofs.RankedLemmas.{in_keys}
use Rattle.commit_graph.proofs.WalkLemmas.{Adds, either, is_in-push, is_in-contains, put_all-adds, parent_of}

-- a commit that is held has its node
pub node_there : (nodes : List (Name × Node)) (id : Name) → Holds (held_of nodes) id → IsSome (node_at nodes id)
node_there nodes id h = sym (is_some-held nodes id) ∙ h

pub only_same : (nodes : List (Name × Node)) → OnlyPlaces nodes nodes
only_same nodes = record { held = refl; size = refl; levels = λ id. refl }

pub only_then : (old now new : List (Name × Node)) → OnlyPlaces old now → OnlyPlaces now new → OnlyPlaces old new
only_then old now new first second = record {
  held = second.held ∙ first.held;
  size = second.size ∙ first.size;
  levels = λ id. second.levels id ∙ first.levels id;
}

-- what a place at a commit changes is neither who is held nor the room
pub space_kept : (old new : List (Name × Node)) (work : List Name) (capacity : ℕ) → OnlyPlaces old new → HasSpace old work capacity → HasSpace new work capacity
space_kept old new work capacity only space = record {
  distinct = space.distinct;
  held = λ q t. node_there new q (subst (λ h. Holds h q) (sym only.held) (is_some-held old q ∙ space.held q t));
  room = omega (arith, only.size, space.room);
}

-- distinct commits that are held aren't more than the map has
few_held : (nodes : List (Name × Node)) (ids : List Name) → IsDistinct same_name ids → ((q : Name) → is_in ids q ≡ true → IsSome (node_at nodes q)) → length ids ≤ length nodes
few_held nodes ids distinct held =
    let few : length ids ≤ length (keys_of nodes) = length-le_from_is_member names_equiv ids (keys_of nodes) distinct (λ q t. sym (in_keys nodes q) ∙ held q t) in
    omega (arith, few, length-keys_of nodes)

-- the list with one more has space still
pub space_more : (nodes : List (Name × Node)) (work : List Name) (capacity : ℕ) (id : Name) → HasSpace nodes work capacity → IsSome (node_at nodes id) → HasSpace nodes (put_new work id) capacity
space_more nodes work capacity id space there =
    let adds : Adds work (id ∷ []) (put_new work id) = put_all-adds work (id ∷ []) in
    record {
      distinct = adds.distinct space.distinct;
      held = λ q t. elim (either (is_in work q) (is_in (id ∷ []) q) (sym (adds.members q) ∙ t)) [
        | inl old ↦ space.held q old
        | inr one ↦ subst (λ x. IsSome (node_at nodes x)) (sym (in_one id q one)) there
      ];
      room = space.room;
    }

-- a commit that isn't in the list fits
pub fits_one : (nodes : List (Name × Node)) (work : List Name) (capacity : ℕ) (id : Name) → HasSpace nodes work capacity → IsSome (node_at nodes id) → is_in work id ≡ false → length work < capacity
fits_one nodes work capacity id space there absent =
    let few : length (work ++ id ∷ []) ≤ length nodes = few_held nodes (work ++ id ∷ []) (IsDistinct-push names_equiv work id space.distinct absent) (λ q t.
    elim (either (is_in work q) (same_name q id) (sym (is_in-push work id q) ∙ t)) [
      | inl old ↦ space.held q old
      | inr one ↦ subst (λ x. IsSome (node_at nodes x)) (sym (in_one id q (pushed q one))) there
    ]) in
    omega (arith, few, length-append work (id ∷ []), space.room)
  where
    pushed : (q : Name) → same_name q id ≡ true → is_in (id ∷ []) q ≡ true
    pushed q e = is_in-push [] id q ∙ e

-- the first i parents are in the list of work
pub record IsMarking (old nodes : List (Name × Node)) (start work parents : List Name) (i capacity : ℕ) : Type 0 where
  pub places : AreInPlace nodes work
  pub only : OnlyPlaces old nodes
  pub space : HasSpace nodes work capacity
  pub put : work ≡ put_all start (take i parents)

pub marking_start : (nodes : List (Name × Node)) (start parents : List Name) (capacity : ℕ) → AreInPlace nodes start → HasSpace nodes start capacity → IsMarking nodes nodes start start parents 0 capacity
marking_start nodes start parents capacity places space = record { places = places; only = only_same nodes; space = space; put = refl }

pub put_more : (start parents : List Name) (i : ℕ) (x : Name) → slice_get parents i ≡ Some x → put_new (put_all start (take i parents)) x ≡ put_all start (take (i + 1) parents)
put_more start parents i x at =
    let low = slice_get_within parents i x at in
    sym (fold-append put_new start (take i parents) (x ∷ []))
    ∙ ap (λ y. put_all start (take i parents ++ y ∷ [])) (sym (get_or_from_slice_get parents i x x at))
    ∙ ap (put_all start) (sym (take_more parents i x low))

pub marking_step : (old nodes new : List (Name × Node)) (start work more parents : List Name) (i capacity : ℕ) (x : Name) → slice_get parents i ≡ Some x → IsMarking old nodes start work parents i capacity → IsSome (node_at nodes x)
    → more ≡ put_new work x → AreInPlace new more → OnlyPlaces nodes new → IsMarking old new start more parents (i + 1) capacity
marking_step old nodes new start work more parents i capacity x at marking there grown places only = record {
  places = places;
  only = only_then old nodes new marking.only only;
  space = space_kept nodes new more capacity only (subst (λ ids. HasSpace nodes ids capacity) (sym grown) (space_more nodes work capacity x marking.space there));
  put = grown ∙ ap (λ ids. put_new ids x) marking.put ∙ put_more start parents i x at;
}

-- the parents of a commit in the map
pub parents_at : (nodes : List (Name × Node)) (id : Name) (node : Node) → node_at nodes id ≡ Some node → parents_in (held_of nodes) id ≡ parents_of node
parents_at nodes id node at = ap (λ o. unwrap_or o []) (get-held nodes id ∙ ap (option_map parents_of) at)

pub parents_none : (nodes : List (Name × Node)) (id : Name) → node_at nodes id ≡ None → parents_in (held_of nodes) id ≡ []
parents_none nodes id at = ap (λ o. unwrap_or o []) (get-held nodes id ∙ ap (option_map parents_of) at)

some_at : (parents : List Name) (i : ℕ) (x : Name) → None ≡ Some x → ⊥
some_at parents i x e = cc

-- there is a parent at each place
pub there_is : (parents : List Name) (i : ℕ) → i < length parents → None ≡ slice_get parents i → ⊥
there_is parents i low none = some_at parents i (slice_index_or parents i []) (none ∙ slice_get-get_or parents i [] low)

-- a parent of a commit has its node
pub parent_there : (old nodes : List (Name × Node)) (id x : Name) (i : ℕ) → IsWhole (held_of old) → OnlyPlaces old nodes → slice_get (parents_in (held_of nodes) id) i ≡ Some x → IsSome (node_at nodes x)
parent_there old nodes id x i whole only at =
    let low = slice_get_within (parents_in (held_of nodes) id) i x at in
    let here : is_in (parents_in (held_of nodes) id) x ≡ true = ap (is_in (parents_in (held_of nodes) id)) (sym (get_or_from_slice_get (parents_in (held_of nodes) id) i x x at)) ∙ at_place (parents_in (held_of nodes) id) i x low in
    node_there nodes x (subst IsWhole (sym only.held) whole id x (parent_of (held_of nodes) id x here))

all_one : (P : Name → Type 0) (x : Name) → P x → All P (x ∷ [])
all_one P x p zero d low = p
all_one P x p (suc k) d low = absurd (omega (arith, low))

-- how far the walk from a commit has come
pub record IsReaching (old nodes : List (Name × Node)) (from : Name) (work : List Name) (i : ℕ) : Type 0 where
  pub places : AreInPlace nodes work
  pub only : OnlyPlaces old nodes
  pub walk : IsWalk (held_of old) (from ∷ []) work i

pub reaching_start : (old nodes : List (Name × Node)) (from : Name) (work : List Name) → Holds (held_of old) from → work ≡ put_new [] from → AreInPlace nodes work → OnlyPlaces old nodes → IsReaching old nodes from work 0
reaching_start old nodes from work holds grown places only = record {
  places = places;
  only = only;
  walk = walk_start (held_of old) (from ∷ []) work (all_one (Holds (held_of old)) from holds) (subst (Adds [] (from ∷ [])) (sym grown) (put_all-adds [] (from ∷ [])));
}

pub reaching_step : (old nodes new : List (Name × Node)) (from : Name) (work more : List Name) (i : ℕ) (id : Name) → IsWhole (held_of old) → i < length work → slice_index_or work i id ≡ id → IsReaching old nodes from work i
    → more ≡ put_all work (parents_in (held_of nodes) id) → AreInPlace new more → OnlyPlaces nodes new → IsReaching old new from more (i + 1)
reaching_step old nodes new from work more i id whole low at reaching grown places only = record {
  places = places;
  only = only_then old nodes new reaching.only only;
  walk = walk_step (held_of old) (from ∷ []) work more i id whole reaching.walk low at
      (subst (Adds work (parents_in (held_of old) id)) (sym (grown ∙ ap (λ h. put_all work (parents_in h id)) reaching.only.held)) (put_all-adds work (parents_in (held_of old) id)));
}

pub reaching_space : (old nodes : List (Name × Node)) (from : Name) (work : List Name) (i capacity : ℕ) → length old ≤ capacity → IsReaching old nodes from work i → HasSpace nodes work capacity
reaching_space old nodes from work i capacity room reaching = record {
  distinct = reaching.walk.distinct;
  held = λ q t. node_there nodes q (subst (λ h. Holds h q) (sym reaching.only.held) (reaching.walk.held q t));
  room = omega (arith, room, reaching.only.size);
}

-- at the end the list tells what the commit reaches
pub reaching_end : (old nodes : List (Name × Node)) (from to : Name) (work : List Name) (i : ℕ) (found : Bool) → IsReaching old nodes from work i → length work ≤ i → found ≡ is_in work to
    → MatchBool found (Reaches (IsParent (held_of old)) from to) (Reaches (IsParent (held_of old)) from to → ⊥)
reaching_end old nodes from to work i true reaching done is = only_from (reaching.walk.sound to (sym is))
  where
    only_from : IsReachedFrom (held_of old) (from ∷ []) to → Reaches (IsParent (held_of old)) from to
    only_from r = subst (λ x. Reaches (IsParent (held_of old)) x to) (the_one r.from r.listed) r.reaches
      where
        the_one : (x : Name) → Contains (from ∷ []) x → x ≡ from
        the_one x c = in_one from x (is_in-contains (from ∷ []) x c)
reaching_end old nodes from to work i false reaching done is = λ r. true≢false (sym (walk_all (held_of old) (from ∷ []) work i reaching.walk done to (record { from = from; listed = (0, omega arith, refl); reaches = r })) ∙ sym is)

-- a ranked graph stays ranked
pub kept_places : (old new : List (Name × Node)) (ranked : Bool) (room now : ℕ) → OnlyPlaces old new → now ≡ room → IsKept old ranked room → IsKept new ranked now
kept_places old new ranked room now only same kept = record {
  few = omega (arith, only.size, kept.few);
  ranks = λ t. let ranks = kept.ranks t in record {
    whole = subst IsWhole (sym only.held) ranks.whole;
    known = λ id holds. let known = ranks.known id (subst (λ h. Holds h id) only.held holds) in
        (known.0, only.levels id ∙ known.1, subst (λ h. IsGeneration (IsParent h) id known.0) (sym only.held) known.2);
    fits = omega (arith, only.size, same, ranks.fits);
  };
}

-- there is room for one
pub fits_first : (nodes : List (Name × Node)) (id : Name) (capacity : ℕ) → IsSome (node_at nodes id) → length nodes ≤ capacity → 0 < capacity
unfolding IsDistinct
fits_first nodes id capacity there room =
    let few : length (id ∷ []) ≤ length nodes = few_held nodes (id ∷ []) (IsDistinct-push names_equiv [] id tt refl) (λ q t. subst (λ x. IsSome (node_at nodes x)) (sym (in_one id q t)) there) in
    omega (arith, few, room)
