use Rattle.stand_world.proofs.LoopLemmas.{one_line, no_line}
use Rattle.stand_world.proofs.commit.push_continued.Goals as goal

pub lines-preserved : goal.lines-preserved
lines-preserved c =
    one_line c.args.text.now c.lines.text c.push_line.new.text c.in-Some.line.now c.in-Some.next.now c.lines.rest.now c.args.lines.now
    c.lines.invariant c.in-Some.ensures.cut.1 c.in-Some.ensures.cut.0 c.in_ok-push_line.ensures

pub returns : goal.returns
returns c = no_line c.args.text.now c.lines.text c.lines.rest.now c.args.lines.now c.lines.invariant c.in_default.ensures.cut
