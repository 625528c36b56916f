-- The first packet of a run that is at fault, by the offset of its first byte.
use Rattle.std.specs.Prelude.{◌≡◌, ℕ, List, [], ◌∷◌, ◌++◌, length}
use Rattle.keyring_branch.specs.Packets.{Packet, IsHead, IsPacket, IsRun}
use Rattle.keyring_branch.specs.declared.key_fail.KeyFail.{KeyFail}
use Rattle.keyring_branch.specs.declared.key_fail.KeyFail.TheVariants as fail

-- no packet stands at the front
abbrev pub NoPacket : List ℕ → Type 0
NoPacket bytes = (front rest : List ℕ) (packet : Packet) → bytes ≡ front ++ rest → IsPacket front packet → ⊥

-- What is left begins at this offset, with a byte that no packet begins with; or no packet stands there for another reason.
abbrev pub IsFrontFault : ℕ → List ℕ → KeyFail → Type 0
IsFrontFault at [] fault = ⊥
IsFrontFault at (first ∷ bytes) (fail.Armor number) = ⊥
IsFrontFault at (first ∷ bytes) (fail.Packet place) = (place ≡ at) × (IsHead first → ⊥)
IsFrontFault at (first ∷ bytes) (fail.Length place) = (place ≡ at) × IsHead first × NoPacket (first ∷ bytes)
IsFrontFault at (first ∷ bytes) fail.NoKey = ⊥
IsFrontFault at (first ∷ bytes) fail.Memory = ⊥

-- packets, and then something that isn't one
pub record HasBadPacket (bytes : List ℕ) (fault : KeyFail) : Type 0 where
  pub before : List Packet
  pub front : List ℕ
  pub rest : List ℕ
  pub run : IsRun front before
  pub whole : bytes ≡ front ++ rest
  pub wrong : IsFrontFault (length front) rest fault
