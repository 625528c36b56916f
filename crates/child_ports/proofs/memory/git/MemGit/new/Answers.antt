use Rattle.std.proofs.Common.{arith, subst}
use Rattle.child_ports.specs.Places.{ArePlaced}
use Rattle.child_ports.proofs.FramedLemmas.{are_framed}
use Rattle.child_ports.proofs.memory.git.MemGit.new.Goals as goal

pub invariant_of-result : goal.invariant_of-result
invariant_of-result c = record {
  framed = are_framed c.args.rows c.requires;
  placed = subst (λ rows. ArePlaced (λ row. row.name) rows c.in_ok-places.places 0) c.as_slice.ensures c.in_ok-places.ensures;
  within = omega arith;
}
