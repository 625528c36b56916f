use Rattle.std.proofs.Common.{◌≡◌, ◌+◌, length, take, refl, sym, ap, ◌∙◌, subst, arith, vec_capacity, Some, List}
use Rattle.std.specs.List.{slice_get}
use Rattle.std.proofs.Math.Seq.{take-length}
use Rattle.commit_graph.specs.History.{Name}
use Rattle.commit_graph.specs.Node.{held_of}
use Rattle.commit_graph.specs.Walk.{parents_in, put_all}
use Rattle.commit_graph.proofs.ReachingLemmas.{IsMarking, marking_start, marking_step, parent_there, fits_one, there_is}
use Rattle.commit_graph.proofs.reaching.mark_parents.Goals as goal
use Rattle.commit_graph.proofs.reaching.mark_parents.Goals.{in-Some, in_default}

pub loop-i-init : goal.loop-i-init
loop-i-init c = (marking_start c.args.nodes.now.entries c.args.work.now.items (parents_in (held_of c.args.nodes.now.entries) c.args.id) (vec_capacity c.args.work.now) c.requires.places c.requires.space, refl)

pub mark-requires-clause-places : goal.mark-requires-clause-places
mark-requires-clause-places c = c.loop-i.invariant.0.places

pub mark-requires-clause-held : goal.mark-requires-clause-held
mark-requires-clause-held c = parent_there c.args.nodes.now.entries c.loop-i.nodes.entries c.args.id c.in-Some.parent c.loop-i.i c.requires.whole c.loop-i.invariant.0.only (sym c.parent_at.ensures ∙ c.in-Some.is)

pub mark-requires-clause-room : goal.mark-requires-clause-room
mark-requires-clause-room c = λ absent.
    let there = parent_there c.args.nodes.now.entries c.loop-i.nodes.entries c.args.id c.in-Some.parent c.loop-i.i c.requires.whole c.loop-i.invariant.0.only (sym c.parent_at.ensures ∙ c.in-Some.is) in
    let fits = fits_one c.loop-i.nodes.entries c.loop-i.work.items (vec_capacity c.args.work.now) c.in-Some.parent c.loop-i.invariant.0.space there absent in
    omega (arith, fits, c.loop-i.work.ok.0, c.loop-i.invariant.1)

pub loop-i-preserved : goal.loop-i-preserved
loop-i-preserved c =
    let old = c.args.nodes.now.entries in
    let nodes = c.loop-i.nodes.entries in
    let start = c.args.work.now.items in
    let id = c.args.id in
    let parents : List Name = parents_in (held_of old) id in
    let capacity = vec_capacity c.args.work.now in
    let same : slice_get parents c.loop-i.i ≡ slice_get (parents_in (held_of nodes) id) c.loop-i.i = ap (λ h. slice_get (parents_in h id) c.loop-i.i) (sym c.loop-i.invariant.0.only.held) in
    elim c.match-parent_at.branch [
      | in-Some w ↦
          let at : slice_get parents c.loop-i.i ≡ Some w.in-Some.parent = same ∙ sym c.parent_at.ensures ∙ w.in-Some.is in
          let there = parent_there old nodes id w.in-Some.parent c.loop-i.i c.requires.whole c.loop-i.invariant.0.only (sym c.parent_at.ensures ∙ w.in-Some.is) in
          let step = marking_step old nodes w.mark.new.nodes.entries start c.loop-i.work.items w.mark.new.work.items parents c.loop-i.i capacity w.in-Some.parent at c.loop-i.invariant.0 there w.mark.ensures.work w.mark.ensures.places w.mark.ensures.nodes in (
            subst (λ ns. IsMarking old ns.entries start c.match-parent_at.work.items parents (c.loop-i.i + 1) capacity) (sym w.nodes-is)
                (subst (λ v. IsMarking old w.mark.new.nodes.entries start v.items parents (c.loop-i.i + 1) capacity) (sym w.work-is) step),
            ap (λ v. vec_capacity v) w.work-is ∙ w.mark.ensures.capacity ∙ c.loop-i.invariant.1,
          )
      | in_default w ↦ absurd (there_is parents c.loop-i.i (omega (arith, c.loop-i-test.true, ap length c.parents_of-i-end.ensures)) (w.in_default.ensures ∙ sym same))
    ]

pub returns-clause-work : goal.returns-clause-work
returns-clause-work c =
    let parents : List Name = parents_in (held_of c.args.nodes.now.entries) c.args.id in
    let all : c.loop-i.i ≡ length parents = omega (arith, c.loop-i-test.false, c.loop-i.auto, ap length c.parents_of-i-end.ensures) in
    c.loop-i.invariant.0.put ∙ ap (put_all c.args.work.now.items) (ap (λ k. take k parents) all ∙ take-length parents)

pub returns-clause-places : goal.returns-clause-places
returns-clause-places c = c.loop-i.invariant.0.places

pub returns-clause-nodes : goal.returns-clause-nodes
returns-clause-nodes c = c.loop-i.invariant.0.only
