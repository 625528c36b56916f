use Rattle.std.proofs.Common.{◌++◌, sym, ap, ◌∙◌, subst, arith}
use Rattle.keyring_branch.specs.Inside.{parts_in}
use Rattle.keyring_branch.proofs.ArmourLemmas.{Joined, joined_none, passed, joined_block, block_fault, joined_all, no_more_lines}
use Rattle.keyring_branch.proofs.dearmoring.contents_of.Goals as goal

pub lines-init : goal.lines-init
lines-init c = subst (Joined c.args.text.now c.args.text.now) (sym c.new-contents.ensures) (joined_none c.args.text.now)

pub returns-in-Ok-None : goal.returns-in-Ok-None
returns-in-Ok-None c =
    block_fault c.args.text.now c.lines.rest.now c.lines.contents c.lines.invariant c.in-Some.line.now c.in-Some.next.now c.in-Some.ensures.lines (sym c.is_begin.ensures ∙ c.if-is_begin.true)
    (sym c.in-Ok-None.ensures.block ∙ ap parts_in c.in-Ok-None.field-0-is) _ (omega (arith, c.line_count.ensures, c.line_count-in-Ok-None.ensures))

pub lines-preserved-then-is_begin : goal.lines-preserved-then-is_begin
lines-preserved-then-is_begin c =
    joined_block c.args.text.now c.lines.rest.now c.lines.contents c.lines.invariant c.in-Some.line.now c.in-Some.next.now c.in-Some.ensures.lines (sym c.is_begin.ensures ∙ c.if-is_begin.true)
    c.in-Ok-Some.block.content c.in-Ok-Some.block.rest.now c.extend.new.self
    (sym c.in-Ok-Some.ensures.block ∙ ap parts_in c.in-Ok-Some.field-0-is)
    (no_more_lines c.in-Ok-Some.field-0 c.in-Ok-Some.block _ c.in-Ok-Some.field-0-is c.in-Ok-Some.ensures.fewer)
    (c.in_ok-extend.ensures.ok ∙ ap (λ l. c.lines.contents ++ l) c.as_slice.ensures)

pub lines-preserved : goal.lines-preserved
lines-preserved c =
    passed c.args.text.now c.lines.rest.now c.lines.contents c.lines.invariant c.in-Some.line.now c.in-Some.next.now c.in-Some.ensures.lines (sym c.is_begin.ensures ∙ c.if-is_begin.false)

pub returns : goal.returns
returns c = joined_all c.args.text.now c.lines.rest.now c.lines.contents c.lines.invariant c.in_default.ensures.lines
