use Rattle.std.proofs.Common.{codes, ◌++◌, ◌∙◌, ap}
use Rattle.stand_world.specs.World.{object_row, three_rows}
use Rattle.stand_world.proofs.LoopLemmas.{then_more}
use Rattle.stand_world.proofs.git_rows.push_tree.Goals as goal

pub returns : goal.returns
returns c =
    then_more c.args.rows.now c.push_object.new.rows c.push_three.new.rows (object_row c.args.dir.now c.args.tree.now) (three_rows c.args.dir.now (codes "keyring^{tree}") c.args.tree.now.frame)
    c.in_ok-push_object.ensures
    (c.in_ok-push_three.ensures ∙ ap (λ frame. c.push_object.new.rows ++ three_rows c.args.dir.now (codes "keyring^{tree}") frame) c.as_slice.ensures)
