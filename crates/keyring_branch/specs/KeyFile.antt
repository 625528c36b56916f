-- Key files: packets, in armour or not, with at least one key among them.
use Rattle.std.specs.Prelude.{◌≡◌, ◌≢◌, ℕ, Result, Ok, List, []}
use Rattle.std.specs.FinSet.{from_list}
use Rattle.child_ports.specs.KeySet.{Keys}
use Rattle.keyring_branch.specs.Armour.{IsDearmored}
use Rattle.keyring_branch.specs.ArmourFaults.{IsArmourFault}
use Rattle.keyring_branch.specs.ArmourReading.{dearmored}
use Rattle.keyring_branch.specs.Fail.{onward}
use Rattle.keyring_branch.specs.PacketFaults.{HasBadPacket}
use Rattle.keyring_branch.specs.PacketReading.{packet_keys}
use Rattle.keyring_branch.specs.Packets.{Packet, IsRun, keys_among}
use Rattle.keyring_branch.specs.declared.key_fail.KeyFail.{KeyFail}
use Rattle.keyring_branch.specs.declared.key_fail.KeyFail.TheVariants as fail
use Rattle.keyring_branch.specs.declared.key_file.KeyPart.{KeyPart}

-- ---- what a key file is

-- out of its armour the file is these packets
pub record HoldsPackets (file : List ℕ) (packets : List Packet) : Type 0 where
  pub bytes : List ℕ
  pub dearmored : IsDearmored file bytes
  pub run : IsRun bytes packets

-- the file has packets among which these are the keys
pub record IsKeyFile (file : List ℕ) (keys : Keys) : Type 0 where
  pub packets : List Packet
  pub holds : HoldsPackets file packets
  pub some : keys_among packets ≢ []
  pub set : keys ≡ from_list (keys_among packets)

-- out of its armour the file has this fault
pub record HoldsBadPacket (file : List ℕ) (fault : KeyFail) : Type 0 where
  pub bytes : List ℕ
  pub dearmored : IsDearmored file bytes
  pub bad : HasBadPacket bytes fault

-- out of its armour the file is packets without a key
pub record HoldsNoKey (file : List ℕ) : Type 0 where
  pub packets : List Packet
  pub holds : HoldsPackets file packets
  pub none : keys_among packets ≡ []

-- the fault of a file: that of its armour, else that of its packets, else that it has no key
abbrev pub IsKeyFault : List ℕ → KeyFail → Type 0
IsKeyFault file (fail.Armor number) = IsArmourFault file (fail.Armor number)
IsKeyFault file (fail.Packet at) = HoldsBadPacket file (fail.Packet at)
IsKeyFault file (fail.Length at) = HoldsBadPacket file (fail.Length at)
IsKeyFault file fail.NoKey = HoldsNoKey file
IsKeyFault file fail.Memory = Unit {0}

-- ---- the same as a function

-- a file's packets, and the keys among them; or the first fault
unfoldable pub part_of : List ℕ → Result KeyPart KeyFail
part_of file =
    onward (dearmored file) (λ bytes.
    onward (packet_keys bytes) (λ keys.
    Ok (record { bytes = bytes; keys = keys })))

-- the keys of a file
abbrev pub keys_of : List ℕ → Result Keys KeyFail
keys_of file = onward (part_of file) (λ part. Ok part.keys)
