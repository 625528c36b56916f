use Rattle.std.proofs.Common.{◌≡◌, ◌≤◌, ◌∙◌, ap, sym, length, arith, []}
use Rattle.std.specs.FinSet as set
use Rattle.commit_graph.specs.History.{name_cmp}
use Rattle.commit_graph.specs.Walk.{parents_in}
use Rattle.commit_graph.proofs.WalkLemmas.{put_all-adds}
use Rattle.commit_graph.proofs.ClosureLemmas.{walk_start, walk_step, walk_end, walk_few}
use Rattle.commit_graph.proofs.graph.Graph.closure.Goals as goal

pub loop-i-init : goal.loop-i-init
loop-i-init c =
    walk_start c.args.self.now.held c.args.ids.now c.mark_all.new.self c.requires.held
    (rw (c.in_ok-mark_all.ensures.ok, c.new-walk.ensures, c.as_slice.ensures) (put_all-adds [] c.args.ids.now))

pub loop-i-smaller : goal.loop-i-smaller
loop-i-smaller c =
    let few = walk_few c.args.self.now.held c.args.ids.now c.loop-i.walk c.loop-i.i c.loop-i.invariant in
    omega (arith, c.loop-i-test.true, c.len.ensures)

pub loop-i-preserved : goal.loop-i-preserved
loop-i-preserved c =
    walk_step c.args.self.now.held c.args.ids.now c.loop-i.walk c.mark_all-in-loop-i.new.self c.loop-i.i c.at.result c.requires.whole c.loop-i.invariant (omega (arith, c.loop-i-test.true, c.len.ensures)) c.at.ensures
    (rw (c.in_ok-mark_all-2.ensures.ok, c.parents_or_none-parents.ensures) (put_all-adds c.loop-i.walk (parents_in c.args.self.now.held c.at.result)))

pub returns-clause-reached : goal.returns-clause-reached
returns-clause-reached c = λ id.
    let done : length c.loop-i.walk ≤ c.loop-i.i = omega (arith, c.loop-i-test.false, c.len.ensures) in
    let ends = walk_end c.args.self.now.held c.args.ids.now c.loop-i.walk c.loop-i.i c.loop-i.invariant done id in
    let same : set.contains c.into_marks.result id ≡ set.contains (set.from_list {R = name_cmp} c.loop-i.walk) id = ap (λ s. set.contains s id) c.into_marks.ensures in
    (λ t. ends.0 (sym same ∙ t), λ r. same ∙ ends.1 r)
