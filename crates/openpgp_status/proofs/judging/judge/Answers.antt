use Rattle.std.proofs.Common.{sym, ap, ◌∙◌}
use Rattle.openpgp_status.specs.Judging.{status_lines, status_lines_from}
use Rattle.openpgp_status.specs.Seen.{judged_by, with_lines}
use Rattle.openpgp_status.proofs.SeenLemmas.{judged_of_lines}
use Rattle.openpgp_status.proofs.judging.judge.Goals as goal

pub returns : goal.returns
returns c =
    let last = ap (λ ps. with_lines c.lines.seen (status_lines_from c.lines.number ps)) (sym c.in_default.ensures.parts) ∙ c.lines.invariant.all in
    record { exact = c.judged.ensures ∙ ap judged_by (c.with.ensures ∙ last) ∙ judged_of_lines (status_lines c.args.status.now) }
