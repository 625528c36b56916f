use Rattle.std.proofs.Common.{◌≡◌, ℕ, ◌+◌, ◌<◌, ap, sym, subst, ◌∙◌, Some, Contains, length, arith, inl, inr, List}
use Rattle.std.specs.List.{slice_index_or}
use Rattle.commit_graph.specs.History.{Name, IsParent}
use Rattle.commit_graph.specs.Node.{held_of}
use Rattle.commit_graph.specs.Level.{node_at}
use Rattle.commit_graph.specs.declared.node.Node.{Node}
use Rattle.commit_graph.proofs.HeldLemmas.{parents_of}
use Rattle.commit_graph.proofs.StepLemmas.{Sofar, settled, settled_bare, place_parent, sofar_none, sofar_known}
use Rattle.commit_graph.proofs.node.step_by_all.Goals as goal
use Rattle.commit_graph.proofs.node.step_by_all.Goals.{in-Some-Known, in-None}

-- the item of a turn is a parent
turn : (nodes : List (Name × Node)) (id : Name) (node : Node) (items : List Name) (i : ℕ) (x : Name) → Some node ≡ node_at nodes id → items ≡ parents_of node → i < length items → x ≡ slice_index_or items i x → IsParent (held_of nodes) id x
turn nodes id node items i x at same low is = place_parent nodes id node x (sym at) (subst (λ ps. Contains ps x) same (i, low, sym is))

pub returns-in_default : goal.returns-in_default
returns-in_default c = settled_bare c.args.nodes.now.entries c.args.id (sym c.in_default.ensures.value)

pub returns-in-Some-Unknown : goal.returns-in-Some-Unknown
returns-in-Some-Unknown c = (turn c.args.nodes.now.entries c.args.id c.in-Some.node.now c.as_slice-parent-items.result.now c.loop-parent.parent-index c.parent-item.result c.in-Some.ensures.value c.as_slice-parent-items.ensures (omega (arith, c.loop-parent-test.true)) c.parent-item.is, sym c.in-Some-Unknown.ensures ∙ ap Some c.in-Some-Unknown.field-0-is)

pub returns-in-Some-Entered : goal.returns-in-Some-Entered
returns-in-Some-Entered c = (c.parent-item.result, turn c.args.nodes.now.entries c.args.id c.in-Some.node.now c.as_slice-parent-items.result.now c.loop-parent.parent-index c.parent-item.result c.in-Some.ensures.value c.as_slice-parent-items.ensures (omega (arith, c.loop-parent-test.true)) c.parent-item.is, inl (sym c.in-Some-Entered.ensures ∙ ap Some c.in-Some-Entered.field-0-is))

pub returns-in-Some-Endless : goal.returns-in-Some-Endless
returns-in-Some-Endless c = (c.parent-item.result, turn c.args.nodes.now.entries c.args.id c.in-Some.node.now c.as_slice-parent-items.result.now c.loop-parent.parent-index c.parent-item.result c.in-Some.ensures.value c.as_slice-parent-items.ensures (omega (arith, c.loop-parent-test.true)) c.parent-item.is, inr (sym c.in-Some-Endless.ensures ∙ ap Some c.in-Some-Endless.field-0-is))

pub loop-parent-preserved : goal.loop-parent-preserved
loop-parent-preserved c =
    let nodes = c.args.nodes.now.entries in
    let items = c.as_slice-parent-items.result.now in
    let low : c.loop-parent.parent-index < length items = omega (arith, c.loop-parent-test.true) in
    elim c.match-level.branch [
      | in-Some-Known w ↦ subst (λ n. Sofar nodes items (c.loop-parent.parent-index + 1) n) (sym (w.greatest-is ∙ w.max-greatest.ensures)) (sofar_known nodes items c.loop-parent.parent-index c.loop-parent.greatest w.in-Some-Known.n c.parent-item.result c.requires low c.parent-item.is (sym w.in-Some-Known.ensures ∙ ap Some w.in-Some-Known.field-0-is) c.loop-parent.invariant)
      | in-None w ↦ subst (λ n. Sofar nodes items (c.loop-parent.parent-index + 1) n) (sym w.greatest-is) (sofar_none nodes items c.loop-parent.parent-index c.loop-parent.greatest c.parent-item.result low c.parent-item.is (sym w.in-None.ensures) c.loop-parent.invariant)
    ]

pub returns : goal.returns
returns c =
    settled c.args.nodes.now.entries c.args.id c.in-Some.node.now c.loop-parent.parent-index c.loop-parent.greatest (sym c.in-Some.ensures.value)
    (let size : length c.as_slice-parent-items.result.now ≡ length (parents_of c.in-Some.node.now) = ap length c.as_slice-parent-items.ensures in omega (arith, c.loop-parent-test.false))
    (subst (λ ps. Sofar c.args.nodes.now.entries ps c.loop-parent.parent-index c.loop-parent.greatest) c.as_slice-parent-items.ensures c.loop-parent.invariant)
