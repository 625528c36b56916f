use Rattle.std.proofs.Common.{length}
use Rattle.keyring_branch.proofs.PacketLemmas.{Walked}
use Rattle.keyring_branch.proofs.keys.packet_keys.Given as goal

abbrev pub invariant-packets : goal.invariant-packets
invariant-packets l = Walked l.bytes l.rest l.keys

abbrev pub decreases-packets : goal.decreases-packets
decreases-packets l = length l.rest
