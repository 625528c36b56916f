use Rattle.real_ports.proofs.TakeLemmas.{copied_front}
use Rattle.real_ports.proofs.header_line.HeaderLine.begin.Goals as goal

pub returns-clause-name : goal.returns-clause-name
returns-clause-name c = copied_front c.min-len.result 1035 c.copy_from_slice.new.self _ c.args.name.now c.min-len.ensures c.copy_from_slice.ensures.after
