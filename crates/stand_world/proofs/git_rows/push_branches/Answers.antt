use Rattle.stand_world.specs.World.{branch_rows}
use Rattle.stand_world.proofs.LoopLemmas.{one_more}
use Rattle.stand_world.proofs.git_rows.push_branches.Goals as goal

pub loop-branch-preserved : goal.loop-branch-preserved
loop-branch-preserved c =
    one_more (branch_rows c.args.dir.now) c.args.rows.now c.loop-branch.rows c.push_branch.new.rows c.branch-item.result c.args.branches.now c.loop-branch.branch-index
    c.loop-branch.invariant c.loop-branch-test.true c.branch-item.is c.in_ok-push_branch.ensures
