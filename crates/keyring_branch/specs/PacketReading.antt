-- The reading of a run of packets: the packets, or the first at fault.
use Rattle.std.specs.Prelude.{◌==◌, ◌&&◌, ℕ, zero, suc, ◌+◌, ◌-◌, nat_lt, if◌then◌else◌, Option, Some, None, Result, Ok, Err, List, [], ◌∷◌, length, take, drop}
use Rattle.std.specs.FinSet.{from_list}
use Rattle.child_ports.specs.KeySet.{Keys}
use Rattle.child_ports.specs.declared.fingerprint.Fingerprint.{Fingerprint}
use Rattle.keyring_branch.specs.Fail.{onward}
use Rattle.keyring_branch.specs.Packets.{Packet, tag_of, length_of, is_key, keys_among}
use Rattle.keyring_branch.specs.declared.key_fail.KeyFail.{KeyFail}
use Rattle.keyring_branch.specs.declared.key_fail.KeyFail.TheVariants as fail

-- The packet at the front of what is left, whose first byte is at this offset, and the rest; or its first fault. The
-- length of a key has to fit two bytes.
abbrev pub with_body : ℕ → Packet → List ℕ → Result (Packet × List ℕ) KeyFail
with_body at packet rest = if is_key packet && nat_lt 65535 (length packet.body) then Err (fail.Length at) else Ok (packet, rest)

abbrev pub with_length : ℕ → ℕ → Option (ℕ × List ℕ) → Result (Packet × List ℕ) KeyFail
with_length at tag None = Err (fail.Length at)
with_length at tag (Some read) = if nat_lt (length read.1) read.0
    then Err (fail.Length at)
    else with_body at (record { tag = tag; body = take read.0 read.1 }) (drop read.0 read.1)

unfoldable pub front_of : ℕ → List ℕ → Result (Packet × List ℕ) KeyFail
front_of at [] = Err (fail.Packet at)
front_of at (first ∷ bytes) =
    if nat_lt first 128 then Err (fail.Packet at)
    else (if tag_of first == 0 then Err (fail.Packet at)
    else with_length at (tag_of first) (length_of first bytes))

-- the packets of what is left, or the first at fault; there are no more packets than bytes
unfoldable pub packets_from : ℕ → ℕ → List ℕ → Result (List Packet) KeyFail
packets_from count at [] = Ok []
packets_from zero at (b ∷ bytes) = Ok []
packets_from (suc count) at (b ∷ bytes) =
    onward (front_of at (b ∷ bytes)) (λ front.
    onward (packets_from count (at + (length (b ∷ bytes) - length front.1)) front.1) (λ packets.
    Ok (front.0 ∷ packets)))

-- the run of packets that the bytes are, or the first at fault
abbrev pub packets_of : List ℕ → Result (List Packet) KeyFail
packets_of bytes = packets_from (length bytes) 0 bytes

-- a set of keys that isn't empty
abbrev pub some_keys : List Fingerprint → Result Keys KeyFail
some_keys [] = Err fail.NoKey
some_keys (key ∷ keys) = Ok (from_list (key ∷ keys))

-- the keys among the packets that the bytes are
unfoldable pub packet_keys : List ℕ → Result Keys KeyFail
packet_keys bytes = onward (packets_of bytes) (λ packets. some_keys (keys_among packets))
