use Rattle.real_ports.proofs.JoinLemmas.{cut_front, cut_rest}
use Rattle.real_ports.proofs.header_line.line_part.Goals as goal

pub returns-in-Some : goal.returns-in-Some
returns-in-Some c =
    let cut = c.in-Some.ensures.cut in
    (c.in-Some.front.now, c.in-Some.field-0-1.now, cut.0, cut_front c.in-Some.front.now c.in-Some.field-0-1.now c.args.bytes.now 10 cut.1, cut_rest c.in-Some.front.now c.in-Some.field-0-1.now c.args.bytes.now 10 cut.1)
