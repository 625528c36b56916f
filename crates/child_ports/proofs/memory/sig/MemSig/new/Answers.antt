use Rattle.std.proofs.Common.{subst}
use Rattle.child_ports.specs.Places.{ArePlaced}
use Rattle.child_ports.proofs.memory.sig.MemSig.new.Goals as goal

pub invariant_of-result : goal.invariant_of-result
invariant_of-result c = subst (λ rows. ArePlaced (λ row. row.payload) rows c.in_ok-places.places 0) c.as_slice.ensures c.in_ok-places.ensures
