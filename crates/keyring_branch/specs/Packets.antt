-- OpenPGP packets and version 4 keys (RFC 4880, sections 4.2, 5.5.2 and 12.2; RFC 9580, sections 4.2 and 5.5.4.2).
use Rattle.std.specs.Prelude.{◌≡◌, ◌≢◌, ◌≤◌, ◌==◌, ◌&&◌, ◌||◌, ℕ, ◌+◌, ◌-◌, ◌*◌, ◌/◌, ◌%◌, nat_lt, nat_eq, Bool, true, if◌then◌else◌, Option, Some, None, List, [], ◌∷◌, ◌++◌, length, take, drop, map, filter}
use Rattle.std.specs.Int.{w16, to_be_bytes}
use Rattle.std.specs.List.{fold, starts_with}
use Rattle.sha1.specs.Sha1.{sha1}
use Rattle.child_ports.specs.declared.fingerprint.Fingerprint.{Fingerprint}

pub record Packet : Type 0 where
  pub tag : ℕ
  pub body : List ℕ

-- the tag in the first byte: bits 5 to 2 in the old form, where bit 6 is clear, and the low six bits in the new form
abbrev pub tag_of : ℕ → ℕ
tag_of first = if nat_lt first 192 then first % 64 / 4 else first % 64

-- ---- the length of a body, and what follows it

-- the number that bytes write, most significant first
abbrev pub number : List ℕ → ℕ
number bytes = fold (λ n b. 256 * n + b) 0 bytes

-- the number of so many bytes at the front
abbrev pub number_at : ℕ → List ℕ → Option (ℕ × List ℕ)
number_at count bytes = if nat_lt (length bytes) count then None else Some (number (take count bytes), drop count bytes)

-- two bytes of the new form, of which the first is 192 to 223
abbrev pub two_bytes : ℕ → List ℕ → Option (ℕ × List ℕ)
two_bytes first [] = None
two_bytes first (second ∷ bytes) = Some ((first - 192) * 256 + second + 192, bytes)

-- in the new form: one byte below 192, two bytes, or 255 and four bytes. 224 to 254 are partial lengths, which are refused.
abbrev pub new_length : List ℕ → Option (ℕ × List ℕ)
new_length [] = None
new_length (first ∷ bytes) =
    if nat_lt first 192 then Some (first, bytes)
    else (if nat_lt first 224 then two_bytes first bytes
    else (if first == 255 then number_at 4 bytes
    else None))

-- in the old form: one, two or four bytes. An indeterminate length is refused.
abbrev pub old_length : ℕ → List ℕ → Option (ℕ × List ℕ)
old_length kind bytes =
    if kind == 0 then number_at 1 bytes
    else (if kind == 1 then number_at 2 bytes
    else (if kind == 2 then number_at 4 bytes
    else None))

unfoldable pub length_of : ℕ → List ℕ → Option (ℕ × List ℕ)
length_of first bytes = if nat_lt first 192 then old_length (first % 4) bytes else new_length bytes

-- ---- keys

-- a version 4 key: a public key or subkey, whose body begins with byte 4
abbrev pub is_key : Packet → Bool
is_key packet = (packet.tag == 6 || packet.tag == 14) && starts_with nat_eq packet.body (4 ∷ [])

-- its fingerprint: SHA-1 of byte 0x99, the body's length in two bytes, most significant first, and the body
abbrev pub fingerprint_of_body : List ℕ → Fingerprint
fingerprint_of_body body = record { 0 = sha1 (0x99 ∷ (to_be_bytes w16 (length body) ++ body)) }

abbrev pub fingerprint_of : Packet → Fingerprint
fingerprint_of packet = fingerprint_of_body packet.body

-- the fingerprints of the keys among packets
abbrev pub keys_among : List Packet → List Fingerprint
keys_among packets = map fingerprint_of (filter is_key packets)

-- ---- a run of packets

-- a packet can begin with this byte: bit 7 is set, and the tag isn't 0
pub record IsHead (first : ℕ) : Type 0 where
  pub marked : 128 ≤ first
  pub tagged : tag_of first ≢ 0

-- the bytes are the packet: its first byte, its length and its body. A key's length has to fit two bytes.
pub record IsPacket (bytes : List ℕ) (packet : Packet) : Type 0 where
  pub first : ℕ
  pub size : List ℕ
  pub head : IsHead first
  pub tag_is : packet.tag ≡ tag_of first
  pub sized : length_of first size ≡ Some (length packet.body, [])
  pub short_key : is_key packet ≡ true → length packet.body ≤ 65535
  pub whole : bytes ≡ first ∷ (size ++ packet.body)

-- the bytes are the packets, one behind another
abbrev pub IsRun : List ℕ → List Packet → Type 0
IsRun bytes [] = bytes ≡ []
IsRun bytes (packet ∷ packets) = (front : List ℕ) × (rest : List ℕ) × (bytes ≡ front ++ rest) × IsPacket front packet × IsRun rest packets
