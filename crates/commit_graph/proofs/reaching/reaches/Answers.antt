use Rattle.std.proofs.Common.{◌∙◌, [], ◌∷◌, sym, ap, subst, arith, vec_capacity}
use Rattle.commit_graph.specs.History.{IsWhole}
use Rattle.commit_graph.specs.Node.{held_of}
use Rattle.commit_graph.specs.Walk.{put_new}
use Rattle.commit_graph.proofs.ClosureLemmas.{walk_few}
use Rattle.commit_graph.proofs.ReachingLemmas.{node_there, fits_first, reaching_start, reaching_step, reaching_space, reaching_end}
use Rattle.commit_graph.proofs.reaching.reaches.Goals as goal

pub mark-requires-clause-held : goal.mark-requires-clause-held
mark-requires-clause-held c = node_there c.args.nodes.now.entries c.args.from c.requires.holds

pub mark-requires-clause-room : goal.mark-requires-clause-room
mark-requires-clause-room c = λ absent.
    let some = fits_first c.args.nodes.now.entries c.args.from (vec_capacity c.args.work.now) (node_there c.args.nodes.now.entries c.args.from c.requires.holds) c.requires.room in
    omega (arith, some, c.clear.ensures.len, c.clear.ensures.capacity)

pub loop-i-init : goal.loop-i-init
loop-i-init c = (
  reaching_start c.args.nodes.now.entries c.mark.new.nodes.entries c.args.from c.mark.new.work.items c.requires.holds (c.mark.ensures.work ∙ ap (λ ids. put_new ids c.args.from) c.clear.ensures.items) c.mark.ensures.places c.mark.ensures.nodes,
  c.mark.ensures.capacity ∙ c.clear.ensures.capacity,
)

pub mark_parents-requires-clause-whole : goal.mark_parents-requires-clause-whole
mark_parents-requires-clause-whole c = subst IsWhole (sym c.loop-i.invariant.0.only.held) c.requires.whole

pub mark_parents-requires-clause-places : goal.mark_parents-requires-clause-places
mark_parents-requires-clause-places c = c.loop-i.invariant.0.places

pub mark_parents-requires-clause-space : goal.mark_parents-requires-clause-space
mark_parents-requires-clause-space c = reaching_space c.args.nodes.now.entries c.loop-i.nodes.entries c.args.from c.loop-i.work.items c.loop-i.i (vec_capacity c.loop-i.work) (omega (arith, c.requires.room, c.loop-i.invariant.1)) c.loop-i.invariant.0

pub loop-i-smaller : goal.loop-i-smaller
loop-i-smaller c =
    let few = walk_few (held_of c.args.nodes.now.entries) (c.args.from ∷ []) c.loop-i.work.items c.loop-i.i c.loop-i.invariant.0.walk in
    omega (arith, few, c.loop-i-test.true, c.loop-i.work.ok.0)

pub loop-i-preserved : goal.loop-i-preserved
loop-i-preserved c = (
  reaching_step c.args.nodes.now.entries c.loop-i.nodes.entries c.mark_parents.new.nodes.entries c.args.from c.loop-i.work.items c.mark_parents.new.work.items c.loop-i.i c.index-id.result.now c.requires.whole (omega (arith, c.loop-i-test.true, c.loop-i.work.ok.0)) (sym c.index-id.ensures) c.loop-i.invariant.0
      c.mark_parents.ensures.work c.mark_parents.ensures.places c.mark_parents.ensures.nodes,
  c.mark_parents.ensures.capacity ∙ c.loop-i.invariant.1,
)

pub is_marked-requires : goal.is_marked-requires
is_marked-requires c = c.loop-i.invariant.0.places

pub returns-clause-nodes : goal.returns-clause-nodes
returns-clause-nodes c = c.loop-i.invariant.0.only

pub returns-clause-capacity : goal.returns-clause-capacity
returns-clause-capacity c = c.loop-i.invariant.1

pub returns-clause-is : goal.returns-clause-is
returns-clause-is c = reaching_end c.args.nodes.now.entries c.loop-i.nodes.entries c.args.from c.args.to c.loop-i.work.items c.loop-i.i c.is_marked.result c.loop-i.invariant.0 (omega (arith, c.loop-i-test.false, c.loop-i.work.ok.0)) c.is_marked.ensures
