use Rattle.std.proofs.Common.{◌∙◌, ◌-◌, length, arith}
use Rattle.object_frames.proofs.BufferLemmas.{filled, length_put, length_mid}
use Rattle.object_frames.proofs.reads.read_full.Goals as goal

pub loop-at-preserved : goal.loop-at-preserved
loop-at-preserved g c =
    let at = c.loop-at.at in
    let within = c.loop-at.invariant.within in
    let room = c.in_ok-n.ensures.room in
    record {
      told = c.read.ensures.told ∙ c.loop-at.invariant.told;
      table = c.read.ensures.table ∙ c.loop-at.invariant.table;
      named = c.read.ensures.named ∙ c.loop-at.invariant.named;
      faults = c.in_ok-n.ensures.cause ∙ c.loop-at.invariant.faults;
      within = omega (arith, length_put at c.loop-at.buf c.read.new.buf within c.read.auto.buf, length_mid at c.loop-at.buf within, room);
      read = λ tells. filled _ (g.G.GitPort.pending c.loop-at.git) (g.G.GitPort.pending c.read.new.self) c.loop-at.buf c.read.new.buf at (length c.loop-at.buf - at) c.in_ok-n.n
          within (omega (arith, room, c.read.auto.buf)) (c.loop-at.invariant.read tells) (c.in_ok-n.ensures.bytes (c.loop-at.invariant.told ∙ tells)).front;
    }
