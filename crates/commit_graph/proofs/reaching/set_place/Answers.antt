use Rattle.std.proofs.Common.{sym, refl}
use Rattle.commit_graph.specs.declared.node.Node.{Node}
use Rattle.commit_graph.proofs.SettingLemmas.{sets_place}
use Rattle.commit_graph.proofs.reaching.set_place.Goals as goal

pub returns-in-Some-clause-places : goal.returns-in-Some-clause-places
returns-in-Some-clause-places c =
    let w : Node = record { parents = c.in-Some.node.now.parents; level = c.in-Some.node.now.level; place = c.args.place; place_as_parent = c.in-Some.node.now.place_as_parent } in
    (sets_place c.args.nodes.now (c.get_mut.follows.lender w) c.args.id c.in-Some.node.now w c.args.place (sym c.in-Some.ensures.value) refl refl refl (c.get_mut.follows.holds w)).0

pub returns-in-Some-clause-nodes : goal.returns-in-Some-clause-nodes
returns-in-Some-clause-nodes c =
    let w : Node = record { parents = c.in-Some.node.now.parents; level = c.in-Some.node.now.level; place = c.args.place; place_as_parent = c.in-Some.node.now.place_as_parent } in
    (sets_place c.args.nodes.now (c.get_mut.follows.lender w) c.args.id c.in-Some.node.now w c.args.place (sym c.in-Some.ensures.value) refl refl refl (c.get_mut.follows.holds w)).1
