use Rattle.std.proofs.Common.{sym, ap, ◌∙◌, length, arith}
use Rattle.keyring_branch.specs.Lines.{lines_of}
use Rattle.keyring_branch.proofs.BlockLemmas.{body_ends, body_more, body_over, body_stops, behind_body, joined_more, behind_more}
use Rattle.keyring_branch.proofs.block.join_body.Goals as goal

pub returns-then-ends_body-clause-joined : goal.returns-then-ends_body-clause-joined
returns-then-ends_body-clause-joined c =
    body_stops _ _ _ (lines_of c.lines.rest.now) c.lines.invariant.joined (body_ends _ c.in-Some.line.now (lines_of c.in-Some.next.now) c.in-Some.ensures.lines (sym c.ends_body.ensures ∙ c.if-ends_body.true))

pub returns-then-ends_body-clause-behind : goal.returns-then-ends_body-clause-behind
returns-then-ends_body-clause-behind c =
    behind_body _ (lines_of c.lines.rest.now) c.lines.invariant.behind (body_ends _ c.in-Some.line.now (lines_of c.in-Some.next.now) c.in-Some.ensures.lines (sym c.ends_body.ensures ∙ c.if-ends_body.true))

pub lines-preserved : goal.lines-preserved
lines-preserved c =
    let more = body_more (lines_of c.lines.rest.now) c.in-Some.line.now (lines_of c.in-Some.next.now) c.in-Some.ensures.lines (sym c.ends_body.ensures ∙ c.if-ends_body.false) in
    record {
      joined = joined_more _ _ _ c.in-Some.line.now _ (lines_of c.lines.rest.now) (lines_of c.in-Some.next.now) c.lines.invariant.joined more c.in_ok-extend.ensures.ok;
      behind = behind_more c.in-Some.line.now _ (lines_of c.lines.rest.now) (lines_of c.in-Some.next.now) c.lines.invariant.behind more;
      fewer = omega (arith, ap length c.in-Some.ensures.lines, c.lines.invariant.fewer);
    }

pub returns-clause-joined : goal.returns-clause-joined
returns-clause-joined c = body_stops _ _ _ (lines_of c.lines.rest.now) c.lines.invariant.joined (body_over (lines_of c.lines.rest.now) c.in_default.ensures.lines)

pub returns-clause-behind : goal.returns-clause-behind
returns-clause-behind c = behind_body _ (lines_of c.lines.rest.now) c.lines.invariant.behind (body_over (lines_of c.lines.rest.now) c.in_default.ensures.lines)
