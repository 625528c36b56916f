-- The least parent that isn't held, over all entries.
use Rattle.std.proofs.Common.{◌≡◌, ℕ, suc, ◌<◌, Bool, true, false, cond, ◌||◌, List, [], ◌∷◌, ◌++◌, length, fold, Option, Some, None, refl, sym, ap, ◌∙◌, subst, ◌⊎◌, inl, inr, is_some, All, arith}
use Rattle.std.specs.List.{slice_index_or}
use Rattle.std.specs.Option.{MatchOption, option_map}
use Rattle.std.specs.Ordering.{is_gt, ordering_reverse}
use Rattle.std.specs.declared.cmp.Ordering.{Ordering}
use Rattle.std.specs.declared.cmp.Ordering.TheVariants.{Less, Equal, Greater}
use Rattle.std.specs.BTreeMap.{is_at}
use Rattle.std.specs.Cmp.Lexicographic.{nat_list_cmp_total}
use Rattle.std.specs.Cmp.{Equal-is, upto}
use Rattle.std.proofs.lemmas.List.Folds.{list_any-append}
use Rattle.commit_graph.specs.declared.level.Level.TheVariants.{Unknown}
use Rattle.commit_graph.proofs.OrderLemmas.{names_equiv, names_exact}
use Rattle.commit_graph.proofs.WalkLemmas.{either, left_of, right_of, is_in-place, is_in-contains}
use Rattle.commit_graph.proofs.HeldLemmas.{parents_of, get-held, is_some-held, held_no}
use Rattle.commit_graph.proofs.SettlingLemmas.{test_cases}
use Rattle.commit_graph.proofs.StepLemmas.{place_parent}
use Rattle.std.proofs.lemmas.Bool.{true≢false}
use Rattle.std.proofs.lemmas.List.Sums.{fold-append}
use Rattle.commit_graph.specs.declared.node.Node.{Node}
use Rattle.commit_graph.specs.History.{Name, name_cmp, Commits, IsParent, IsMissing, IsWhole, IsLeast}
use Rattle.commit_graph.specs.Node.{held_of}
use Rattle.commit_graph.specs.Walk.{same_name, is_in}
use Rattle.commit_graph.specs.Level.{node_at, lower, lesser_of}

-- the parents of all entries
pub all_parents : List (Name × Node) → List Name
all_parents [] = []
all_parents (e ∷ es) = e.1.parents ++ all_parents es

pub lowest_all : (nodes es : List (Name × Node)) (least : Option Name) → fold (λ (least : Option Name) (e : Name × Node). fold (lower nodes) least e.1.parents) least es ≡ fold (lower nodes) least (all_parents es)
unfolding all_parents
lowest_all nodes [] least = refl
lowest_all nodes (e ∷ es) least = lowest_all nodes es (fold (lower nodes) least e.1.parents) ∙ sym (fold-append (lower nodes) least e.1.parents (all_parents es))

-- the least so far is at most this
abbrev pub Covers : Option Name → Name → Type 0
Covers None p = ⊥
Covers (Some x) p = is_gt (name_cmp x p) ≡ false

-- what the least of some ids that aren't held is
pub record Lowers (nodes : List (Name × Node)) (ids : List Name) (before after : Option Name) : Type 0 where
  pub keeps : (p : Name) → Covers before p → Covers after p
  pub covers : (p : Name) → is_in ids p ≡ true → is_some (node_at nodes p) ≡ false → Covers after p
  pub from : (x : Name) → after ≡ Some x → (before ≡ Some x) ⊎ ((is_in ids x ≡ true) × (is_some (node_at nodes x) ≡ false))

pub in_one : (id p : Name) → is_in (id ∷ []) p ≡ true → p ≡ id
in_one id p t = elim (either (same_name p id) false t) [ inl h ↦ names_exact p id h | inr h ↦ absurd (true≢false (sym h)) ]

is_there : (id : Name) → is_in (id ∷ []) id ≡ true
is_there id = left_of (same_name id id) false (names_equiv.refl id)

not_above : (id : Name) → is_gt (name_cmp id id) ≡ false
not_above id = ap is_gt ((Equal-is (name_cmp id id)).0 (names_equiv.refl id))

turn_gt : (r s : Ordering) → s ≡ ordering_reverse r → is_gt r ≡ true → is_gt s ≡ false
turn_gt Less s e h = absurd (true≢false (sym h))
turn_gt Equal s e h = absurd (true≢false (sym h))
turn_gt Greater s e h = ap is_gt e

lower_cases : (nodes : List (Name × Node)) (other id : Name) (b : Bool) → is_some (node_at nodes id) ≡ false → is_gt (name_cmp other id) ≡ b → Lowers nodes (id ∷ []) (Some other) (cond b (Some id) (Some other))
lower_cases nodes other id true gone gt = record {
  keeps = λ p h. upto nat_list_cmp_total id other p (turn_gt (name_cmp other id) (name_cmp id other) (nat_list_cmp_total.antisymm id other) gt) h;
  covers = λ p t absent. ap (λ q. is_gt (name_cmp id q)) (in_one id p t) ∙ not_above id;
  from = λ x e. inr (ap (is_in (id ∷ [])) (sym (same_id id x e)) ∙ is_there id, ap (λ q. is_some (node_at nodes q)) (sym (same_id id x e)) ∙ gone);
}
  where
    same_id : (a b : Name) → Some a ≡ Some b → a ≡ b
    same_id a b e = cc
lower_cases nodes other id false gone gt = record {
  keeps = λ p h. h;
  covers = λ p t absent. ap (λ q. is_gt (name_cmp other q)) (in_one id p t) ∙ gt;
  from = λ x e. inl e;
}

lower_one : (nodes : List (Name × Node)) (before : Option Name) (id : Name) (b : Bool) → is_some (node_at nodes id) ≡ b → Lowers nodes (id ∷ []) before (cond b before (lesser_of before id))
lower_one nodes before id true here = record {
  keeps = λ p h. h;
  covers = λ p t absent. absurd (true≢false (sym here ∙ ap (λ q. is_some (node_at nodes q)) (sym (in_one id p t)) ∙ absent));
  from = λ x e. inl e;
}
lower_one nodes None id false gone = record {
  keeps = λ p h. absurd h;
  covers = λ p t absent. ap (λ q. is_gt (name_cmp id q)) (in_one id p t) ∙ not_above id;
  from = λ x e. inr (ap (is_in (id ∷ [])) (sym (same_id id x e)) ∙ is_there id, ap (λ q. is_some (node_at nodes q)) (sym (same_id id x e)) ∙ gone);
}
  where
    same_id : (a b : Name) → Some a ≡ Some b → a ≡ b
    same_id a b e = cc
lower_one nodes (Some other) id false gone = lower_cases nodes other id (is_gt (name_cmp other id)) gone refl

pub lower_all : (nodes : List (Name × Node)) (ids : List Name) (before : Option Name) → Lowers nodes ids before (fold (lower nodes) before ids)
lower_all nodes [] before = record { keeps = λ p h. h; covers = λ p t absent. absurd (true≢false (sym t)); from = λ x e. inl e }
lower_all nodes (id ∷ ids) before =
    let one = lower_one nodes before id (is_some (node_at nodes id)) refl in
    let more = lower_all nodes ids (lower nodes before id) in
    record {
      keeps = λ p h. more.keeps p (one.keeps p h);
      covers = λ p t absent. elim (either (same_name p id) (is_in ids p) t) [
        | inl h ↦ more.keeps p (one.covers p (left_of (same_name p id) false h) absent)
        | inr h ↦ more.covers p h absent
      ];
      from = λ x e. elim (more.from x e) [
        | inl h ↦ elim (one.from x h) [
          | inl g ↦ inl g
          | inr g ↦ inr (left_of (same_name x id) (is_in ids x) (ap (λ q. same_name q id) (in_one id x g.0) ∙ names_equiv.refl id), g.1)
        ]
        | inr h ↦ inr (right_of (same_name x id) (is_in ids x) h.0, h.1)
      ];
    }

-- the parents of one entry are among those of all
to_all : (es : List (Name × Node)) (c p : Name) (n : Node) → node_at es c ≡ Some n → is_in n.parents p ≡ true → is_in (all_parents es) p ≡ true
unfolding all_parents
to_all [] c p n e t = cc
to_all (e ∷ es) c p n at t = list_any-append (same_name p) e.1.parents (all_parents es) ∙ at_one (is_at (name_cmp c) e.0) (λ h. to_all es c p n h t) at
  where
    same_node : (x y : Node) → Some x ≡ Some y → x ≡ y
    same_node x y e = cc

    at_one : (b : Bool) → (node_at es c ≡ Some n → is_in (all_parents es) p ≡ true) → cond b (Some e.1) (node_at es c) ≡ Some n → (is_in e.1.parents p || is_in (all_parents es) p) ≡ true
    at_one true ih h = left_of (is_in e.1.parents p) (is_in (all_parents es) p) (ap (λ (x : Node). is_in x.parents p) (same_node e.1 n h) ∙ t)
    at_one false ih h = right_of (is_in e.1.parents p) (is_in (all_parents es) p) (ih h)

from_all : (es : List (Name × Node)) (d : Name × Node) (p : Name) → is_in (all_parents es) p ≡ true → (k : ℕ) × (k < length es) × (is_in (slice_index_or es k d).1.parents p ≡ true)
unfolding all_parents
from_all [] d p t = absurd (true≢false (sym t))
from_all (e ∷ es) d p t = elim (either (is_in e.1.parents p) (is_in (all_parents es) p) (sym (list_any-append (same_name p) e.1.parents (all_parents es)) ∙ t)) [
  | inl h ↦ (0, omega arith, h)
  | inr h ↦ let more = from_all es d p h in (suc more.0, omega (arith, more.1), more.2)
]

node_of : (nodes : List (Name × Node)) (c : Name) (ps : List Name) (o : Option Node) → node_at nodes c ≡ o → option_map parents_of o ≡ Some ps → (n : Node) × (node_at nodes c ≡ Some n) × (n.parents ≡ ps)
node_of nodes c ps None e h = cc
node_of nodes c ps (Some n) e h = (n, e, same_list n.parents ps h)
  where
    same_list : (xs ys : List Name) → Some xs ≡ Some ys → xs ≡ ys
    same_list xs ys e = cc

to_all_parents : (nodes : List (Name × Node)) (c p : Name) → IsParent (held_of nodes) c p → is_in (all_parents nodes) p ≡ true
to_all_parents nodes c p parent =
    let n = node_of nodes c parent.parents (node_at nodes c) refl (sym (get-held nodes c) ∙ parent.given) in
    to_all nodes c p n.0 n.1 (ap (λ ps. is_in ps p) n.2 ∙ is_in-contains parent.parents p parent.listed)

missing_cases : (nodes : List (Name × Node)) (r : Option Name) → All (λ e. node_at nodes e.0 ≡ Some e.1) nodes → Lowers nodes (all_parents nodes) None r → MatchOption r (IsWhole (held_of nodes)) (IsLeast (IsMissing (held_of nodes)))
missing_cases nodes None found lowers = λ c p parent. elim (test_cases (is_some (node_at nodes p))) [
  | inl t ↦ is_some-held nodes p ∙ t
  | inr f ↦ absurd (lowers.covers p (to_all_parents nodes c p parent) f)
]
missing_cases nodes (Some x) found lowers = elim (lowers.from x refl) [
  | inl h ↦ absurd (none_some x h)
  | inr h ↦ record {
    is = missing x h.0 h.1;
    least = λ other m. lowers.covers other (to_all_parents nodes m.child other m.parent) (sym (is_some-held nodes other) ∙ ap is_some m.absent);
  }
]
  where
    none_some : (x : Name) → None ≡ Some x → ⊥
    none_some x e = cc

    missing : (x : Name) → is_in (all_parents nodes) x ≡ true → is_some (node_at nodes x) ≡ false → IsMissing (held_of nodes) x
    missing x t gone =
        let d : Name × Node = (x, record { parents = []; level = Unknown; place = 0; place_as_parent = 0 }) in
        let at = from_all nodes d x t in
        let e : Name × Node = slice_index_or nodes at.0 d in
        record { child = e.0; parent = place_parent nodes e.0 e.1 x (found at.0 d at.1) (is_in-place e.1.parents x at.2); absent = held_no nodes (held_of nodes) x refl gone }

pub least_of_all : (nodes : List (Name × Node)) (held : Commits) (r : Option Name) → held_of nodes ≡ held → All (λ e. node_at nodes e.0 ≡ Some e.1) nodes → r ≡ fold (λ (least : Option Name) (e : Name × Node). fold (lower nodes) least e.1.parents) None nodes → MatchOption r (IsWhole held) (IsLeast (IsMissing held))
least_of_all nodes held r is found e = subst (λ h. MatchOption r (IsWhole h) (IsLeast (IsMissing h))) is (missing_cases nodes r found (subst (Lowers nodes (all_parents nodes) None) (sym (e ∙ lowest_all nodes nodes None)) (lower_all nodes (all_parents nodes) None)))
