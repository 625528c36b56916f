use Rattle.std.proofs.Common.{length, ap, arith}
use Rattle.child_ports.proofs.PieceLemmas.{handed}
use Rattle.child_ports.proofs.memory.git.MemGitGitPort.read.Goals as goal

pub returns-clause-bytes : goal.returns-clause-bytes
returns-clause-bytes c =
    let a = c.self.inside in
    let n = c.copy_from-n.result in
    let is = c.bytes_of-bytes.ensures in
    let within = c.self.invariant.within in
    let count = c.copy_from-n.ensures.count in
    let some = c.next_piece-most.ensures.some in
    let hands = rw is at (handed c.bytes_of-bytes.result.now c.copy_from-n.new.buf a.at n c.copy_from-n.ensures.front (omega (arith, within, ap length is)) (λ room more. omega arith)) in
    rw (ap (λ s. s.pending) c.self.view_is) at hands
