use Rattle.std.proofs.Common.{◌∙◌, sym}
use Rattle.channel_file.proofs.ListLemmas.{tree_at, within, first_at}
use Rattle.channel_file.proofs.elements.first_behind.Goals as goal

pub returns-in-Some : goal.returns-in-Some
returns-in-Some c =
    let h = within _ _ c.loop-element-test.true in
    let here = tree_at _ _ c.element-item.result c.loop-element-test.true c.element-item.is in
    sym (c.loop-element.invariant ∙ first_at _ _ c.loop-element.element-index _ _ h here (sym c.in-Some.ensures))

pub loop-element-preserved : goal.loop-element-preserved
loop-element-preserved c =
    let h = within _ _ c.loop-element-test.true in
    let here = tree_at _ _ c.element-item.result c.loop-element-test.true c.element-item.is in
    c.loop-element.invariant ∙ first_at _ _ c.loop-element.element-index _ _ h here (sym c.in_default.ensures)
