use Rattle.std.proofs.Common.{◌≡◌, ◌*◌, ◌^◌, ◌<◌, take}
use Rattle.keyring_branch.specs.Packets.{number}
use Rattle.keyring_branch.proofs.packet.number.Given as goal

abbrev pub invariant-loop-byte : goal.invariant-loop-byte
invariant-loop-byte l = record { value : l.number ≡ number (take l.byte-index l.bytes); below : l.number < 2 ^ (8 * l.byte-index) }
