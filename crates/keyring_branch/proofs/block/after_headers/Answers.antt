use Rattle.std.proofs.Common.{sym, ap, ◌∙◌, length, arith}
use Rattle.keyring_branch.specs.Lines.{lines_of}
use Rattle.keyring_branch.proofs.BlockLemmas.{headers_end, header_passed, no_headers}
use Rattle.keyring_branch.proofs.block.after_headers.Goals as goal

pub returns-then-is_empty-clause-behind : goal.returns-then-is_empty-clause-behind
returns-then-is_empty-clause-behind c =
    sym (c.lines.invariant.behind ∙ headers_end _ c.in-Some.line.now (lines_of c.in-Some.next.now) c.in-Some.ensures.lines (sym c.is_empty.ensures ∙ c.if-is_empty.true))

pub lines-preserved : goal.lines-preserved
lines-preserved c = record {
  behind = c.lines.invariant.behind ∙ header_passed _ c.in-Some.line.now (lines_of c.in-Some.next.now) c.in-Some.ensures.lines (sym c.is_empty.ensures ∙ c.if-is_empty.false);
  fewer = omega (arith, ap length c.in-Some.ensures.lines, c.lines.invariant.fewer);
}

pub returns-clause-behind : goal.returns-clause-behind
returns-clause-behind c = sym (c.lines.invariant.behind ∙ no_headers (lines_of c.lines.rest.now) c.in_default.ensures.lines)
