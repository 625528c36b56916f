-- Levels stay right while they are set.
use Rattle.std.proofs.Common.{◌≡◌, ℕ, suc, ◌+◌, ◌<◌, ◌≤◌, Bool, true, false, cond, List, [], ◌∷◌, length, Option, Some, None, refl, sym, ap, ◌∙◌, subst, arith, ◌⊎◌, inl, inr, is_some}
use Rattle.std.specs.Option.{option_map}
use Rattle.commit_graph.specs.declared.node.Node.{Node}
use Rattle.commit_graph.specs.declared.level.Level.{Level}
use Rattle.commit_graph.specs.declared.level.Level.TheVariants.{Known, Endless}
use Rattle.commit_graph.specs.Chains.{IsChain, IsGeneration}
use Rattle.commit_graph.specs.History.{Name, Commits, IsParent, IsWhole}
use Rattle.commit_graph.specs.Node.{held_of}
use Rattle.commit_graph.specs.Walk.{same_name}
use Rattle.commit_graph.specs.Level.{node_at, level_at, level_of, total, undecided, SetsLevel, AreLevels, IsSettled, IsEndless}
use Rattle.commit_graph.proofs.HeldLemmas.{is_some-held}
use Rattle.commit_graph.proofs.OrderLemmas.{names_exact}

came : (b : Bool) (to l : Level) (o : Option Level) → option_map (λ before. cond b to before) o ≡ Some l → ((b ≡ true) × (to ≡ l)) ⊎ (o ≡ Some l)
came b to l None e = inr e
came true to l (Some before) e = inl (refl, cc)
came false to l (Some before) e = inr e

-- a level is the one that was set, or was there before
pub came_from : (old new : List (Name × Node)) (id : Name) (to : Level) (q : Name) (l : Level) → SetsLevel old new id to → level_at new q ≡ Some l → ((id ≡ q) × (to ≡ l)) ⊎ (level_at old q ≡ Some l)
came_from old new id to q l sets e = elim (came (same_name id q) to l (level_at old q) (sym (sets.levels q) ∙ e)) [
  | inl h ↦ inl (names_exact id q h.0, h.1)
  | inr h ↦ inr h
]

-- what has to be so of the level that is set
pub record IsRight (held : Commits) (id : Name) (to : Level) (under size : ℕ) : Type 0 where
  pub known : (n : ℕ) → to ≡ Known n → IsGeneration (IsParent held) id n × (n + under ≤ size)
  pub endless : to ≡ Endless → IsEndless (IsParent held) id

pub levels_set : (old new : List (Name × Node)) (id : Name) (to : Level) → AreLevels old → SetsLevel old new id to → total undecided new ≤ total undecided old → IsRight (held_of old) id to (total undecided new) (length old) → AreLevels new
levels_set old new id to levels sets fewer right = record {
  small = (
    omega (arith, levels.small.0, sets.size),
    λ q n e. elim (came_from old new id to q (Known n) sets e) [
      | inl h ↦ let r = (right.known n h.1).1 in omega (arith, r, sets.size)
      | inr h ↦ let r = levels.small.1 q n h in omega (arith, r, fewer, sets.size)
    ],
  );
  known = λ q n e. subst (λ held. IsGeneration (IsParent held) q n) (sym sets.held) (elim (came_from old new id to q (Known n) sets e) as (λ _. IsGeneration (IsParent (held_of old)) q n) [
    | inl h ↦ subst (λ x. IsGeneration (IsParent (held_of old)) x n) h.0 (right.known n h.1).0
    | inr h ↦ levels.known q n h
  ]);
  endless = λ q e. subst (λ held. IsEndless (IsParent held) q) (sym sets.held) (elim (came_from old new id to q Endless sets e) as (λ _. IsEndless (IsParent (held_of old)) q) [
    | inl h ↦ subst (λ x. IsEndless (IsParent (held_of old)) x) h.0 (right.endless h.1)
    | inr h ↦ levels.endless q h
  ]);
}

pub has_level : (o : Option Node) → is_some o ≡ true → option_map level_of o ≡ None → ⊥
has_level None e h = cc
has_level (Some x) e h = cc

-- a parent has a generation below it
parent_below : (nodes : List (Name × Node)) (id : Name) (n : ℕ) (p : Name) → IsWhole (held_of nodes) → AreLevels nodes → IsSettled nodes id n → IsParent (held_of nodes) id p → (m : ℕ) × IsGeneration (IsParent (held_of nodes)) p m × (m < n)
parent_below nodes id n p whole levels settled parent = elim (settled.parents p parent) [
  | inl none ↦ absurd (has_level (node_at nodes p) (sym (is_some-held nodes p) ∙ whole id p parent) none)
  | inr h ↦ (h.0, levels.known p h.0 h.1, h.2)
]

-- its generation
pub settled_generation : (nodes : List (Name × Node)) (id : Name) (n : ℕ) → IsWhole (held_of nodes) → AreLevels nodes → IsSettled nodes id n → IsGeneration (IsParent (held_of nodes)) id n
settled_generation nodes id n whole levels settled = from settled.greatest
  where
    most : (others : List Name) → IsChain (IsParent (held_of nodes)) id others → length (id ∷ others) ≤ n
    most [] h = let positive = settled.positive in omega arith
    most (p ∷ others) h =
        let below = parent_below nodes id n p whole levels settled h.0 in
        let size = below.1.greatest others h.1 in
        omega (arith, size, below.2)

    from : ((n ≡ 1) ⊎ ((p : Name) × IsParent (held_of nodes) id p × ((m : ℕ) × (level_at nodes p ≡ Some (Known m)) × (suc m ≡ n)))) → IsGeneration (IsParent (held_of nodes)) id n
    from (inl one) = record { rest = []; chain = tt; count = sym one; greatest = most }
    from (inr best) =
        let g = levels.known best.0 best.2.0 best.2.1 in
        record { rest = best.0 ∷ g.rest; chain = (best.1, g.chain); count = ap suc g.count ∙ best.2.2; greatest = most }
