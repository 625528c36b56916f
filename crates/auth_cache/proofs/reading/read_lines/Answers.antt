use Rattle.std.proofs.Common.{◌-◌, length, sym, ◌∙◌, arith}
use Rattle.std.proofs.lemmas.Result.{err_from_is_err_and}
use Rattle.auth_cache.proofs.ReadingLemmas.{gives_err, gives_same, line_on, stop_on, end_on}
use Rattle.auth_cache.proofs.reading.read_lines.Goals as goal

pub returns-in_err-front : goal.returns-in_err-front
returns-in_err-front c =
    let p = err_from_is_err_and c.from_residual.result c.from_residual.ensures.1 in
    let cut = c.in-Some.ensures.cut in
    rw (p.1, p.2) (gives_err c.in_err-front.field-0.0 _ _
    (λ e. sym c.lines.invariant.same ∙ stop_on (c.args.size - length c.lines.rest.now) c.lines.front c.lines.rest.now c.in-Some.line.now c.in-Some.next.now c.in_err-front.field-0.0 cut.0 cut.1 e)
    c.in_err-front.ensures)

pub lines-preserved : goal.lines-preserved
lines-preserved c =
    let cut = c.in-Some.ensures.cut in
    record {
      inside = omega (arith, c.in-Some.ensures.shorter, c.lines.invariant.inside);
      same = sym (line_on c.args.size c.lines.front c.in_ok-front.front c.lines.rest.now c.in-Some.line.now c.in-Some.next.now cut.0 cut.1 c.lines.invariant.inside c.in_ok-front.ensures) ∙ c.lines.invariant.same;
    }

pub returns : goal.returns
returns c =
    gives_same c.finish.result _ (c.finish.ensures ∙ sym (end_on (c.args.size - length c.lines.rest.now) c.lines.front c.lines.rest.now c.in_default.ensures.cut) ∙ c.lines.invariant.same)
