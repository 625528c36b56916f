-- A commit's generation from those of its parents.
use Rattle.std.proofs.Common.{◌≡◌, ℕ, suc, ◌+◌, ◌<◌, ◌≤◌, max, List, length, Some, None, refl, sym, ap, ◌∙◌, subst, arith, Contains, ◌⊎◌, inl, inr, ⊎_elim}
use Rattle.std.specs.List.{slice_index_or}
use Rattle.std.specs.Option.{option_map}
use Rattle.std.proofs.lemmas.List.{get_or_default}
use Rattle.std.proofs.lemmas.Bool.{cases_lt}
use Rattle.commit_graph.specs.declared.node.Node.{Node}
use Rattle.commit_graph.specs.declared.level.Level.TheVariants.{Known}
use Rattle.commit_graph.specs.History.{Name, IsParent}
use Rattle.commit_graph.specs.Node.{held_of}
use Rattle.commit_graph.specs.Level.{node_at, level_at, AreSmall, IsSettled}
use Rattle.commit_graph.proofs.ClosureLemmas.{at_or_below}
use Rattle.commit_graph.proofs.HeldLemmas.{parents_of, get-held}

-- no level, or a generation that is at most this
abbrev pub IsBelow : List (Name × Node) → Name → ℕ → Type 0
IsBelow nodes p n = (level_at nodes p ≡ None) ⊎ ((m : ℕ) × (level_at nodes p ≡ Some (Known m)) × (m < n))

-- the greatest generation of the first i parents
pub record Sofar (nodes : List (Name × Node)) (parents : List Name) (i greatest : ℕ) : Type 0 where
  pub each : (k : ℕ) (d : Name) → k < i → IsBelow nodes (slice_index_or parents k d) (greatest + 1)
  pub best : (greatest ≡ 0) ⊎ ((k : ℕ) × (k < length parents) × ((d : Name) → level_at nodes (slice_index_or parents k d) ≡ Some (Known greatest)))
  pub small : greatest ≤ 1000000

pub sofar_start : (nodes : List (Name × Node)) (parents : List Name) → Sofar nodes parents 0 0
sofar_start nodes parents = record { each = λ k d low. absurd (omega arith); best = inl refl; small = omega arith }

raised : (nodes : List (Name × Node)) (p : Name) (m n : ℕ) → m ≤ n → IsBelow nodes p m → IsBelow nodes p n
raised nodes p m n le (inl none) = inl none
raised nodes p m n le (inr known) = inr (known.0, known.1, omega (arith, known.2))

each_more : (nodes : List (Name × Node)) (parents : List Name) (i n : ℕ) → ((k : ℕ) (d : Name) → k < i → IsBelow nodes (slice_index_or parents k d) n) → ((d : Name) → IsBelow nodes (slice_index_or parents i d) n) → (k : ℕ) (d : Name) → k < i + 1 → IsBelow nodes (slice_index_or parents k d) n
each_more nodes parents i n before now k d low = elim (at_or_below k i low) [
  | inl less ↦ before k d less
  | inr same ↦ subst (λ j. IsBelow nodes (slice_index_or parents j d) n) (sym same) (now d)
]

pub sofar_none : (nodes : List (Name × Node)) (parents : List Name) (i greatest : ℕ) (x : Name) → i < length parents → x ≡ slice_index_or parents i x → level_at nodes x ≡ None → Sofar nodes parents i greatest → Sofar nodes parents (i + 1) greatest
sofar_none nodes parents i greatest x low at none sofar = record {
  each = each_more nodes parents i (greatest + 1) sofar.each (λ d. inl (ap (level_at nodes) (get_or_default parents i d x low ∙ sym at) ∙ none));
  best = sofar.best;
  small = sofar.small;
}

best_more : (nodes : List (Name × Node)) (parents : List Name) (i greatest n : ℕ) → i < length parents → ((d : Name) → level_at nodes (slice_index_or parents i d) ≡ Some (Known n)) → ((greatest ≡ 0) ⊎ ((k : ℕ) × (k < length parents) × ((d : Name) → level_at nodes (slice_index_or parents k d) ≡ Some (Known greatest)))) → (max greatest n ≡ greatest) ⊎ (max greatest n ≡ n) → (max greatest n ≡ 0) ⊎ ((k : ℕ) × (k < length parents) × ((d : Name) → level_at nodes (slice_index_or parents k d) ≡ Some (Known (max greatest n))))
best_more nodes parents i greatest n low known (inl zero) (inl same) = inl (same ∙ zero)
best_more nodes parents i greatest n low known (inr best) (inl same) = inr (best.0, best.1, λ d. best.2 d ∙ ap (λ m. Some (Known m)) (sym same))
best_more nodes parents i greatest n low known best (inr same) = inr (i, low, λ d. known d ∙ ap (λ m. Some (Known m)) (sym same))

max_is : (m n : ℕ) → (m ≤ n) ⊎ (n ≤ m) → (max m n ≡ m) ⊎ (max m n ≡ n)
max_is m n (inl le) = inr (omega arith)
max_is m n (inr le) = inl (omega arith)

either_le : (m n : ℕ) → (m ≤ n) ⊎ (n ≤ m)
either_le m n = ⊎_elim (λ lt. inl (omega arith)) (λ le. inr le) (cases_lt m n)

pub sofar_known : (nodes : List (Name × Node)) (parents : List Name) (i greatest n : ℕ) (x : Name) → AreSmall nodes → i < length parents → x ≡ slice_index_or parents i x → level_at nodes x ≡ Some (Known n) → Sofar nodes parents i greatest → Sofar nodes parents (i + 1) (max greatest n)
sofar_known nodes parents i greatest n x few low at known sofar =
    let here : (d : Name) → level_at nodes (slice_index_or parents i d) ≡ Some (Known n) = λ d. ap (level_at nodes) (get_or_default parents i d x low ∙ sym at) ∙ known in
    record {
      each = each_more nodes parents i (max greatest n + 1) (λ k d less. raised nodes _ (greatest + 1) (max greatest n + 1) (omega arith) (sofar.each k d less)) (λ d. inr (n, here d, omega arith));
      best = best_more nodes parents i greatest n low here sofar.best (max_is greatest n (either_le greatest n));
      small = omega (arith, few.0, few.1 x n known, sofar.small);
    }

-- the parents of a node, by place and by relation
pub place_parent : (nodes : List (Name × Node)) (id : Name) (node : Node) (p : Name) → node_at nodes id ≡ Some node → Contains (parents_of node) p → IsParent (held_of nodes) id p
place_parent nodes id node p at listed = record { parents = parents_of node; given = get-held nodes id ∙ ap (option_map parents_of) at; listed = listed }

pub parent_place : (nodes : List (Name × Node)) (id : Name) (node : Node) (p : Name) → node_at nodes id ≡ Some node → IsParent (held_of nodes) id p → Contains (parents_of node) p
parent_place nodes id node p at parent = subst (λ ps. Contains ps p) (same_list _ _ (sym parent.given ∙ get-held nodes id ∙ ap (option_map parents_of) at)) parent.listed
  where
    same_list : (xs ys : List Name) → Some xs ≡ Some ys → xs ≡ ys
    same_list xs ys e = cc

pub settled : (nodes : List (Name × Node)) (id : Name) (node : Node) (i greatest : ℕ) → node_at nodes id ≡ Some node → length (parents_of node) ≤ i → Sofar nodes (parents_of node) i greatest → IsSettled nodes id (greatest + 1)
settled nodes id node i greatest at all sofar = record {
  positive = omega arith;
  parents = λ p parent. let place = parent_place nodes id node p at parent in subst (λ x. IsBelow nodes x (greatest + 1)) place.2 (sofar.each place.0 p (omega (arith, place.1)));
  greatest = best_of sofar.best;
}
  where
    best_of : ((greatest ≡ 0) ⊎ ((k : ℕ) × (k < length (parents_of node)) × ((d : Name) → level_at nodes (slice_index_or (parents_of node) k d) ≡ Some (Known greatest)))) → (greatest + 1 ≡ 1) ⊎ ((p : Name) × IsParent (held_of nodes) id p × ((m : ℕ) × (level_at nodes p ≡ Some (Known m)) × (suc m ≡ greatest + 1)))
    best_of (inl zero) = inl (omega arith)
    best_of (inr best) =
        let p : Name = slice_index_or (parents_of node) best.0 id in
        inr (p, place_parent nodes id node p at (best.0, best.1, get_or_default (parents_of node) best.0 p id best.1), (greatest, best.2 id, omega arith))

-- a commit that isn't held has no parents
pub settled_bare : (nodes : List (Name × Node)) (id : Name) → node_at nodes id ≡ None → IsSettled nodes id 1
settled_bare nodes id at = record { positive = omega arith; parents = λ p parent. absurd (none_some parent.parents (sym (get-held nodes id ∙ ap (option_map parents_of) at) ∙ parent.given)); greatest = inl refl }
  where
    none_some : (ps : List Name) → None ≡ Some ps → ⊥
    none_some ps e = cc
