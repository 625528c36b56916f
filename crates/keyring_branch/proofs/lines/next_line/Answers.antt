use Rattle.std.proofs.Common.{ap, sym, ◌∙◌, [], ◌∷◌}
use Rattle.keyring_branch.specs.Lines.{lines_of}
use Rattle.keyring_branch.proofs.LineLemmas.{no_lines, first_line, last_line}
use Rattle.keyring_branch.proofs.PacketLemmas.{some_left, none_left}
use Rattle.keyring_branch.proofs.lines.next_line.Goals as goal

pub returns-then-is_empty-clause-lines : goal.returns-then-is_empty-clause-lines
returns-then-is_empty-clause-lines c = ap lines_of (none_left c.args.text.now c.is_empty.result c.is_empty.ensures c.if-is_empty.true) ∙ no_lines

pub returns-in-Some-clause-lines : goal.returns-in-Some-clause-lines
returns-in-Some-clause-lines c =
    first_line c.args.text.now c.in-Some.line.now c.in-Some.rest.now c.in-Some.ensures.cut.0 c.in-Some.ensures.cut.1 ∙ ap (λ l. l ∷ lines_of c.in-Some.rest.now) (sym c.trimmed.ensures)

pub returns-in-None-clause-lines : goal.returns-in-None-clause-lines
returns-in-None-clause-lines c =
    let some = some_left c.args.text.now c.is_empty.result c.is_empty.ensures c.if-is_empty.false in
    last_line c.args.text.now some c.in-None.ensures.cut ∙ ap (λ l. l ∷ lines_of []) (sym c.trimmed-in-None.ensures)
