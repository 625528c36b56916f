-- A packet and a length as the code holds them.
use Rattle.std.specs.Prelude.{ℕ, Option, Some, None, List}
use Rattle.std.specs.Borrow.{Bor}
use Rattle.keyring_branch.specs.declared.packet.FrontPacket.{FrontPacket}
use Rattle.keyring_branch.specs.Packets.{Packet}

abbrev pub seen : Option (ℕ × Bor (List ℕ)) → Option (ℕ × List ℕ)
seen None = None
seen (Some read) = Some (read.0, read.1.now)

abbrev pub packet_of : FrontPacket → Packet
packet_of packet = record { tag = packet.tag; body = packet.body.now }
