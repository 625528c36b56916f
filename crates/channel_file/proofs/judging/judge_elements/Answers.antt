use Rattle.std.proofs.Common.{◌∙◌, sym}
use Rattle.std.proofs.lemmas.List.{take-map}
use Rattle.std.proofs.lemmas.Result.{err_from_is_err_and}
use Rattle.sexp_reader.specs.Tree.{tree}
use Rattle.channel_file.proofs.ListLemmas.{tree_at, within}
use Rattle.channel_file.proofs.ReadingLemmas.{judged_more, judged_fault}
use Rattle.channel_file.proofs.judging.judge_elements.Goals as goal

pub returns-in_err-judge_element-clause-judged : goal.returns-in_err-judge_element-clause-judged
returns-in_err-judge_element-clause-judged c =
    let p = err_from_is_err_and c.from_residual.result c.from_residual.ensures.1 in
    let h = within _ _ c.loop-place-test.true in
    let here = tree_at _ _ c.index-elements-place.result c.loop-place-test.true c.index-elements-place.is in
    rw (p.1, p.2) (judged_fault _ _ c.loop-place.place _ _ c.in_err-judge_element.field-0.0 h here (sym (take-map tree _ _)) c.loop-place.invariant c.in_err-judge_element.ensures.judged)

pub loop-place-preserved : goal.loop-place-preserved
loop-place-preserved c =
    let h = within _ _ c.loop-place-test.true in
    let here = tree_at _ _ c.index-elements-place.result c.loop-place-test.true c.index-elements-place.is in
    c.loop-place.invariant ∙ judged_more _ _ c.loop-place.place _ _ h here (sym (take-map tree _ _)) c.in_ok-judge_element.ensures.judged
