use Rattle.commit_objects.specs.Lines.{parent_line}
use Rattle.stand_world.proofs.LoopLemmas.{one_more}
use Rattle.stand_world.proofs.commit.push_parents.Goals as goal

pub loop-parent-preserved : goal.loop-parent-preserved
loop-parent-preserved c =
    one_more parent_line c.args.text.now c.loop-parent.text c.push_id_line.new.text c.parent-item.result c.args.parents.now c.loop-parent.parent-index
    c.loop-parent.invariant c.loop-parent-test.true c.parent-item.is c.in_ok-push_id_line.ensures
