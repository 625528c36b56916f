use Rattle.std.proofs.Common.{◌∙◌, sym, arith}
use Rattle.stand_world.proofs.ScriptLemmas.{right_line, wrong_line, at_end, gives}
use Rattle.stand_world.proofs.world.read_script.Goals as goal

pub returns-in-None : goal.returns-in-None
returns-in-None c =
    wrong_line c.args.script.now c.lines.declared c.lines.number c.lines.rest.now c.in-Some.line.now c.in-Some.next.now c.lines.invariant.so_far
    c.in-Some.ensures.cut.1 c.in-Some.ensures.cut.0 (sym c.in-None.is ∙ c.in_ok-after.ensures)

pub lines-preserved : goal.lines-preserved
lines-preserved c = record {
  so_far =
      right_line c.args.script.now c.lines.declared c.in-Some-2.after c.lines.number c.lines.rest.now c.in-Some.line.now c.in-Some.next.now c.lines.invariant.so_far
      c.in-Some.ensures.cut.1 c.in-Some.ensures.cut.0 (sym c.in-Some-2.is ∙ c.in_ok-after.ensures);
  within = omega (arith, c.in-Some.ensures.shorter);
}

pub returns : goal.returns
returns c =
    gives c.end_script.result _ (at_end c.args.script.now c.lines.declared c.lines.number c.lines.rest.now c.end_script.result c.lines.invariant.so_far c.in_default.ensures.cut c.end_script.ensures)
