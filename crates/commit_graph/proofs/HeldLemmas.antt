-- What a map of nodes holds, read by key.
use Rattle.std.proofs.Common.{◌≡◌, ◌+◌, Bool, true, false, cond, List, [], ◌∷◌, map, length, Option, Some, None, refl, sym, ap, ◌∙◌, arith, is_some}
use Rattle.std.specs.Option.{option_map}
use Rattle.std.specs.Ordering.{is_eq, eq_by_cmp}
use Rattle.std.specs.List.{AllByRecursion}
use Rattle.std.specs.Map.{keys_of}
use Rattle.std.specs.BTreeMap.{is_at}
use Rattle.std.specs.List.Sorted.{IsStrictlySortedBy}
use Rattle.std.specs.declared.cmp.Ordering.TheVariants.{Less}
use Rattle.std.specs.Cmp.{eq_by_cmp_equiv}
use Rattle.std.proofs.lemmas.Map.Lookups.{exact_bytes}
use Rattle.std.specs.Cmp.Lexicographic.{nat_list_cmp_total}
use Rattle.std.specs.FinMap as fin
use Rattle.commit_graph.specs.declared.node.Node.{Node}
use Rattle.commit_graph.specs.History.{Name, name_cmp, Commits, History, Holds}
use Rattle.commit_graph.specs.Node.{held_of}
use Rattle.commit_graph.specs.Level.{node_at}

abbrev pub parents_of : Node → List Name
parents_of node = node.parents

option_map-cond : (b : Bool) (x : Node) (o : Option Node) → cond b (Some (parents_of x)) (option_map parents_of o) ≡ option_map parents_of (cond b (Some x) o)
option_map-cond true x o = refl
option_map-cond false x o = refl

find-held : (nodes : List (Name × Node)) (id : Name) → fin.find name_cmp id (map {B = Name × List Name} (λ (e : Name × Node). (e.0, e.1.parents)) nodes) ≡ option_map parents_of (node_at nodes id)
find-held [] id = refl
find-held (e ∷ nodes) id =
    ap (cond (is_at (name_cmp id) e.0) (Some (parents_of e.1))) (find-held nodes id)
    ∙ option_map-cond (is_at (name_cmp id) e.0) e.1 (node_at nodes id)

-- what the history has at an id
pub get-held : (nodes : List (Name × Node)) (id : Name) → fin.get (held_of nodes) id ≡ option_map parents_of (node_at nodes id)
get-held nodes id = fin.get-from_entries nat_list_cmp_total _ id ∙ find-held nodes id

pub is_some-held : (nodes : List (Name × Node)) (id : Name) → fin.contains_key (held_of nodes) id ≡ is_some (node_at nodes id)
is_some-held nodes id = ap is_some (get-held nodes id) ∙ mapped (node_at nodes id)
  where
    mapped : (o : Option Node) → is_some (option_map parents_of o) ≡ is_some o
    mapped None = refl
    mapped (Some x) = refl

below-find : (k : Name) (nodes : List (Name × Node)) → AllByRecursion (λ y. name_cmp k y ≡ Less) (keys_of nodes) → node_at nodes k ≡ None
below-find k [] h = refl
below-find k (e ∷ nodes) h = ap (λ r. cond (is_eq r) (Some e.1) (node_at nodes k)) h.0 ∙ below-find k nodes h.1

-- how many it has
pub len-held : (nodes : List (Name × Node)) → IsStrictlySortedBy name_cmp (keys_of nodes) → fin.len (held_of nodes) ≡ length nodes
unfolding IsStrictlySortedBy
len-held [] h = fin.len-empty name_cmp (List Name)
len-held (e ∷ nodes) h =
    fin.len-insert nat_list_cmp_total (held_of nodes) e.0 (parents_of e.1)
    ∙ ap (λ b. cond b (fin.len (held_of nodes)) (fin.len (held_of nodes) + 1)) (is_some-held nodes e.0 ∙ ap is_some (below-find e.0 nodes h.0))
    ∙ (let ih = len-held nodes h.1 in omega (arith, ih))

one_put : (id : Name) (node : Node) (q : Name) (o : Option Node) → option_map parents_of (cond (is_at (name_cmp id) q) (Some node) o) ≡ cond (is_at (name_cmp id) q) (Some (parents_of node)) (option_map parents_of o)
one_put id node q o = sym (mapped (is_at (name_cmp id) q))
  where
    mapped : (b : Bool) → cond b (Some (parents_of node)) (option_map parents_of o) ≡ option_map parents_of (cond b (Some node) o)
    mapped true = refl
    mapped false = refl

-- nodes that differ at one id hold histories that differ there
pub held-put : (old new : List (Name × Node)) (id : Name) (node : Node) → ((q : Name) → node_at new q ≡ cond (is_at (name_cmp id) q) (Some node) (node_at old q)) → held_of new ≡ fin.insert (held_of old) id (parents_of node)
held-put old new id node h = fin.same_map nat_list_cmp_total exact_bytes _ _ (λ q.
    get-held new q ∙ ap (option_map parents_of) (h q) ∙ one_put id node q (node_at old q)
    ∙ ap (λ b. cond b (Some (parents_of node)) (option_map parents_of (node_at old q))) ((eq_by_cmp_equiv nat_list_cmp_total).symm id q)
    ∙ sym (fin.get-insert nat_list_cmp_total (held_of old) id (parents_of node) q ∙ ap (cond (eq_by_cmp name_cmp q id) (Some (parents_of node))) (get-held old q)))

-- the same parents at each id
pub held-same : (old new : List (Name × Node)) → ((q : Name) → option_map parents_of (node_at new q) ≡ option_map parents_of (node_at old q)) → held_of new ≡ held_of old
held-same old new h = fin.same_map nat_list_cmp_total exact_bytes _ _ (λ q. get-held new q ∙ h q ∙ sym (get-held old q))

pub held_yes : (nodes : List (Name × Node)) (h : Commits) (id : Name) → held_of nodes ≡ h → is_some (node_at nodes id) ≡ true → Holds h id
held_yes nodes h id e t = ap (λ m. fin.contains_key m id) (sym e) ∙ is_some-held nodes id ∙ t

none_of : (o : Option Node) → is_some o ≡ false → option_map parents_of o ≡ None
none_of None e = refl
none_of (Some x) e = cc

pub held_no : (nodes : List (Name × Node)) (h : Commits) (id : Name) → held_of nodes ≡ h → is_some (node_at nodes id) ≡ false → fin.get h id ≡ None
held_no nodes h id e t = ap (λ m. fin.get m id) (sym e) ∙ get-held nodes id ∙ none_of (node_at nodes id) t

-- histories that aren't ranked
pub same_unranked : (m n : Commits) → m ≡ n → ◌≡◌ {A = History} (record { held = m; ranked = false }) (record { held = n; ranked = false })
same_unranked m n e = λ i. record { held = e i; ranked = false }
