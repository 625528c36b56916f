-- A graph whose commits are all looked at is ranked, or has a least commit without a generation.
use Rattle.std.proofs.Common.{◌≡◌, ◌≢◌, ℕ, ◌+◌, ◌<◌, ◌≤◌, Bool, true, false, cond, ◌||◌, List, [], ◌∷◌, length, Option, Some, None, refl, sym, ap, ◌∙◌, subst, arith, ◌⊎◌, inl, inr, ⊎_elim, is_some, Result, Ok, Err, OnErr}
use Rattle.std.specs.List.{slice_index_or}
use Rattle.std.specs.Option.{option_map}
use Rattle.std.specs.Map.{keys_of}
use Rattle.std.specs.Ordering.{is_gt}
use Rattle.std.specs.declared.cmp.Ordering.TheVariants.{Less}
use Rattle.std.specs.List.Sorted.{IsStrictlySortedBy}
use Rattle.std.specs.Cmp.{Equal-is}
use Rattle.std.specs.BTreeMap.{is_at}
use Rattle.std.specs.FinMap as fin
use Rattle.std.proofs.lemmas.Bool.{cases_eq, cases_lt, true≢false}
use Rattle.std.proofs.lemmas.List.{get_or_default, length-map}
use Rattle.std.proofs.lemmas.Map.Keys.{Less-from_sorted}
use Rattle.commit_graph.specs.declared.node.Node.{Node}
use Rattle.commit_graph.specs.declared.level.Level.{Level}
use Rattle.commit_graph.specs.declared.level.Level.TheVariants.{Unknown, Entered, Known, Endless}
use Rattle.commit_graph.specs.Chains.{IsGeneration}
use Rattle.commit_graph.specs.History.{Name, name_cmp, Commits, History, IsParent, IsWhole, Holds, IsLeast, IsCyclic}
use Rattle.commit_graph.specs.Node.{held_of}
use Rattle.commit_graph.specs.Walk.{same_name, is_in}
use Rattle.commit_graph.specs.Level.{node_at, level_at, level_of, AreLevels, NoneEntered, Settles, AreRanked, IsFirstEndless, IsKept, forgotten}
use Rattle.commit_graph.proofs.HeldLemmas.{parents_of, is_some-held, held-same}
use Rattle.commit_graph.proofs.OrderLemmas.{names_equiv}
use Rattle.commit_graph.proofs.WalkLemmas.{is_in-place, is_in-contains}
use Rattle.commit_graph.proofs.LevelLemmas.{has_level}
use Rattle.commit_graph.proofs.EndlessLemmas.{endless_none}

-- how far ranking has come
pub record IsRanking (held : Commits) (nodes : List (Name × Node)) (ids work : List Name) (i : ℕ) : Type 0 where
  pub same : held_of nodes ≡ held
  pub levels : AreLevels nodes
  pub rest : NoneEntered nodes
  pub empty : work ≡ []
  pub done : (k : ℕ) (d : Name) → k < i → k < length ids → level_at nodes (slice_index_or ids k d) ≢ Some Unknown

pub ranking_step : (held : Commits) (nodes new : List (Name × Node)) (ids work after : List Name) (i : ℕ) (id : Name) → IsRanking held nodes ids work i → i < length ids → id ≡ slice_index_or ids i id → Settles nodes new id → after ≡ [] → IsRanking held new ids after (i + 1)
ranking_step held nodes new ids work after i id ranking low at settles empty = record {
  same = settles.held ∙ ranking.same;
  levels = settles.levels;
  rest = settles.rest;
  empty = empty;
  done = λ k d below inside. ⊎_elim
      (λ same e. settles.done (ap (level_at new) (at ∙ get_or_default ids i id d low ∙ ap (λ j. slice_index_or ids j d) (sym same)) ∙ e))
      (λ apart. settles.stays (slice_index_or ids k d) (ranking.done k d (omega arith) inside))
      (cases_eq k i);
}

abbrev blank : Node → Node
blank n = record { parents = n.parents; level = Unknown; place = n.place; place_as_parent = n.place_as_parent }

node_forgotten : (nodes : List (Name × Node)) (id : Name) → node_at (forgotten nodes) id ≡ option_map (λ (n : Node). record { parents = n.parents; level = Unknown; place = n.place; place_as_parent = n.place_as_parent }) (node_at nodes id)
node_forgotten [] id = refl
node_forgotten (e ∷ nodes) id = ap (cond {A = Option Node} (is_at (name_cmp id) e.0) (Some (record { parents = e.1.parents; level = Unknown; place = e.1.place; place_as_parent = e.1.place_as_parent }))) (node_forgotten nodes id) ∙ mapped (is_at (name_cmp id) e.0) (node_at nodes id)
  where
    mapped : (b : Bool) (o : Option Node) → cond {A = Option Node} b (Some (record { parents = e.1.parents; level = Unknown; place = e.1.place; place_as_parent = e.1.place_as_parent })) (option_map (λ (n : Node). record { parents = n.parents; level = Unknown; place = n.place; place_as_parent = n.place_as_parent }) o) ≡ option_map (λ (n : Node). record { parents = n.parents; level = Unknown; place = n.place; place_as_parent = n.place_as_parent }) (cond b (Some e.1) o)
    mapped true o = refl
    mapped false o = refl

parents_forgotten : (o : Option Node) → option_map parents_of (option_map (λ (n : Node). record { parents = n.parents; level = Unknown; place = n.place; place_as_parent = n.place_as_parent }) o) ≡ option_map parents_of o
parents_forgotten None = refl
parents_forgotten (Some n) = refl

held_forgotten : (nodes : List (Name × Node)) → held_of (forgotten nodes) ≡ held_of nodes
held_forgotten nodes = held-same nodes (forgotten nodes) (λ q. ap (option_map parents_of) (node_forgotten nodes q) ∙ parents_forgotten (node_at nodes q))

no_level : (l : Level) → (Unknown ≢ l) → (o : Option Node) → option_map level_of (option_map (λ (n : Node). record { parents = n.parents; level = Unknown; place = n.place; place_as_parent = n.place_as_parent }) o) ≢ Some l
no_level l h None e = cc
no_level l h (Some n) e = h (one l e)
  where
    one : (l : Level) → Some Unknown ≡ Some l → Unknown ≡ l
    one l e = cc

level_forgotten : (nodes : List (Name × Node)) (id : Name) (l : Level) → (Unknown ≢ l) → level_at (forgotten nodes) id ≢ Some l
level_forgotten nodes id l h e = no_level l h (node_at nodes id) (sym (ap (option_map level_of) (node_forgotten nodes id)) ∙ e)

-- with nothing looked at
pub ranking_start : (held : Commits) (nodes new : List (Name × Node)) (ids work : List Name) → held_of nodes ≡ held → length nodes ≤ 1000000 → new ≡ forgotten nodes → work ≡ [] → IsRanking held new ids work 0
ranking_start held nodes new ids work is few blanked empty = subst (λ es. IsRanking held es ids work 0) (sym blanked) (record {
  same = held_forgotten nodes ∙ is;
  levels = record {
    small = (let size = length-map {B = Name × Node} nodes (λ (e : Name × Node). (e.0, blank e.1)) in omega (arith, size), λ q n e. absurd (level_forgotten nodes q (Known n) (λ x. cc) e));
    known = λ q n e. absurd (level_forgotten nodes q (Known n) (λ x. cc) e);
    endless = λ q e. absurd (level_forgotten nodes q Endless (λ x. cc) e);
  };
  rest = λ q e. level_forgotten nodes q Entered (λ x. cc) e;
  empty = empty;
  done = λ k d low inside. absurd (omega arith);
})

pub length_forgotten : (nodes new : List (Name × Node)) → new ≡ forgotten nodes → length new ≡ length nodes
length_forgotten nodes new e = ap length e ∙ length-map {B = Name × Node} nodes (λ (e : Name × Node). (e.0, record { parents = e.1.parents; level = Unknown; place = e.1.place; place_as_parent = e.1.place_as_parent }))

-- in the keys, and in the map
pub in_keys : (nodes : List (Name × Node)) (id : Name) → is_some (node_at nodes id) ≡ is_in (keys_of nodes) id
in_keys [] id = refl
in_keys (e ∷ nodes) id = one (is_at (name_cmp id) e.0) ∙ ap (λ b. same_name id e.0 || b) (in_keys nodes id)
  where
    one : (b : Bool) → is_some (cond b (Some e.1) (node_at nodes id)) ≡ (b || is_some (node_at nodes id))
    one true = refl
    one false = refl

level_cases : (nodes : List (Name × Node)) (id : Name) (l : Option Level) → level_at nodes id ≡ l → AreLevels nodes → (l ≢ None) → (l ≢ Some Unknown) → (l ≢ Some Entered) → ((n : ℕ) × (level_at nodes id ≡ Some (Known n)) × IsGeneration (IsParent (held_of nodes)) id n) ⊎ (l ≡ Some Endless)
level_cases nodes id None e levels a b c = absurd (a refl)
level_cases nodes id (Some Unknown) e levels a b c = absurd (b refl)
level_cases nodes id (Some Entered) e levels a b c = absurd (c refl)
level_cases nodes id (Some (Known n)) e levels a b c = inl (n, e, levels.known id n e)
level_cases nodes id (Some Endless) e levels a b c = inr refl

-- a held commit has its generation, or none
pub decided : (held : Commits) (nodes : List (Name × Node)) (ids work : List Name) (i : ℕ) → IsRanking held nodes ids work i → ((id : Name) → fin.contains_key held id ≡ is_in ids id) → length ids ≤ i → (id : Name) → Holds (held_of nodes) id → ((k : ℕ) × (k < length ids) × (slice_index_or ids k id ≡ id)) × (((n : ℕ) × (level_at nodes id ≡ Some (Known n)) × IsGeneration (IsParent (held_of nodes)) id n) ⊎ (level_at nodes id ≡ Some Endless))
decided held nodes ids work i ranking keys all id holds =
    let there : is_some (node_at nodes id) ≡ true = sym (is_some-held nodes id) ∙ holds in
    let place = is_in-place ids id (sym (keys id) ∙ sym (ap (λ h. fin.contains_key h id) ranking.same) ∙ holds) in (
      place,
      level_cases nodes id (level_at nodes id) refl ranking.levels (has_level (node_at nodes id) there)
          (λ e. ranking.done place.0 id (omega (arith, place.1)) place.1 (ap (level_at nodes) place.2 ∙ e)) (ranking.rest id),
    )

pub ranked_end : (held : Commits) (nodes : List (Name × Node)) (ids work : List Name) (i room : ℕ) → IsWhole held → IsRanking held nodes ids work i → ((id : Name) → fin.contains_key held id ≡ is_in ids id) → length ids ≤ i → IsFirstEndless nodes ids None → length nodes ≤ room → AreRanked nodes room
ranked_end held nodes ids work i room whole ranking keys all none fits = record {
  whole = subst IsWhole (sym ranking.same) whole;
  known = λ id holds. let one = decided held nodes ids work i ranking keys all id holds in elim one.1 [
    | inl h ↦ h
    | inr e ↦ absurd (none one.0.0 id one.0.1 (ap (level_at nodes) one.0.2 ∙ e))
  ];
  fits = fits;
}

sorted_less : (ids : List Name) (i j : ℕ) (d : Name) → IsStrictlySortedBy name_cmp ids → i < j → j < length ids → name_cmp (slice_index_or ids i d) (slice_index_or ids j d) ≡ Less
sorted_less ids i j d sorted low inside = Less-from_sorted name_cmp ids i j d sorted low inside

-- the first without a generation is the least
pub least_cyclic : (held : Commits) (nodes : List (Name × Node)) (ids work : List Name) (i : ℕ) (id : Name) → IsRanking held nodes ids work i → ((id : Name) → fin.contains_key held id ≡ is_in ids id) → IsStrictlySortedBy name_cmp ids → length ids ≤ i → IsFirstEndless nodes ids (Some id) → IsLeast (IsCyclic held) id
least_cyclic held nodes ids work i id ranking keys sorted all first = subst (λ h. IsLeast (IsCyclic h) id) ranking.same (record {
  is = record { holds = ap (λ h. fin.contains_key h id) ranking.same ∙ keys id ∙ is_in-contains ids id (first.1.0, first.1.1, first.1.2); endless = endless_none (IsParent (held_of nodes)) id (ranking.levels.endless id first.0) };
  least = λ other cyclic. let one = decided held nodes ids work i ranking keys all other cyclic.holds in elim one.1 [
    | inl known ↦ absurd (cyclic.endless known.0 known.2)
    | inr e ↦ ⊎_elim
        (λ before. absurd (first.1.3 one.0.0 other before (ap (level_at nodes) one.0.2 ∙ e)))
        (λ after. ⊎_elim
        (λ same. let is : id ≡ other = sym first.1.2 ∙ get_or_default ids first.1.0 id other first.1.1 ∙ ap (λ j. slice_index_or ids j other) (sym same) ∙ one.0.2 in
        ap (λ x. is_gt (name_cmp id x)) (sym is) ∙ ap is_gt ((Equal-is (name_cmp id id)).0 (names_equiv.refl id)))
        (λ apart. ap is_gt (ap (λ x. name_cmp x other) (sym first.1.2 ∙ get_or_default ids first.1.0 id other first.1.1) ∙ ap (name_cmp (slice_index_or ids first.1.0 other)) (sym one.0.2) ∙ sorted_less ids first.1.0 one.0.0 other sorted (omega arith) one.0.1))
        (cases_eq one.0.0 first.1.0))
        (cases_lt one.0.0 first.1.0)
  ];
})

-- what an ordered map's keys say of the history that it holds
pub keys_held : (held : Commits) (nodes : List (Name × Node)) (ids : List Name) → held_of nodes ≡ held → ids ≡ keys_of nodes → (id : Name) → fin.contains_key held id ≡ is_in ids id
keys_held held nodes ids is keys id = ap (λ h. fin.contains_key h id) (sym is) ∙ is_some-held nodes id ∙ in_keys nodes id ∙ sym (ap (λ xs. is_in xs id) keys)

-- a history by its parts
pub same_history : (m : Commits) (r : Bool) (h : History) → m ≡ h.held → r ≡ h.ranked → ◌≡◌ {A = History} (record { held = m; ranked = r }) h
same_history m r h e f = λ i. record { held = e i; ranked = f i }

pub on_err : {T E : Type 0} (r : Result T E) (P : Type 0) → P → OnErr r P
on_err (Ok x) P p = tt
on_err (Err e) P p = p

-- not ranked
pub kept_bare : (nodes : List (Name × Node)) (ranked : Bool) (room : ℕ) → length nodes ≤ 1000000 → ranked ≡ false → IsKept nodes ranked room
kept_bare nodes ranked room few e = record { few = few; ranks = λ t. absurd (true≢false (sym t ∙ e)) }
