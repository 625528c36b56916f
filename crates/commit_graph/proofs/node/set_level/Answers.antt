use Rattle.std.proofs.Common.{ap, sym, refl}
use Rattle.commit_graph.specs.declared.node.Node.{Node}
use Rattle.commit_graph.proofs.SettingLemmas.{sets_level, sets_no_level}
use Rattle.commit_graph.proofs.node.set_level.Goals as goal

pub returns-in-Some : goal.returns-in-Some
returns-in-Some c =
    let w : Node = record { parents = c.in-Some.node.now.parents; level = c.args.to; place = c.in-Some.node.now.place; place_as_parent = c.in-Some.node.now.place_as_parent } in
    sets_level c.args.nodes.now (c.get_mut.follows.lender w) c.args.id c.in-Some.node.now w c.args.to (sym c.in-Some.ensures.value) refl refl (c.get_mut.follows.holds w)

pub returns-in_default : goal.returns-in_default
returns-in_default c = sets_no_level c.args.nodes.now.entries c.get_mut.follows.lender-at-none.entries c.args.id c.args.to (sym c.in_default.ensures.value) (ap (λ m. m.entries) c.get_mut.follows.holds-at-none)
