use Rattle.std.proofs.Common.{◌≤◌, length, arith}
use Rattle.real_ports.proofs.TakeLemmas.{front_of_known, whole_of_front}
use Rattle.real_ports.proofs.gpgv_answer.whole_output.Goals as goal

pub returns-clause-whole : goal.returns-clause-whole
returns-clause-whole g c =
    let known = front_of_known g.O.Read.remaining c.take.result c.args.output 65537 c.new-answer.result.items c.read_to_end.new.buf.items c.take.ensures.limit c.take.ensures.inner c.new-answer.ensures.items c.in_ok-read_to_end.ensures.bytes in
    let short : length c.read_to_end.new.buf.items ≤ 65536 = omega arith in
    whole_of_front (g.O.Read.remaining c.args.output) 65536 c.read_to_end.new.buf.items short known
