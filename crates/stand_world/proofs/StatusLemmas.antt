-- A keyring as packets and as a key file.
use Rattle.std.proofs.Common.{◌≡◌, ℕ, Bool, true, false, List, [], ◌∷◌, Result, Ok, Err, refl, sym, ◌∙◌, ap, arith}
use Rattle.std.proofs.lemmas.Bool.Decides.{nat_tests}
use Rattle.std.specs.FinSet as set
use Rattle.std.specs.Prelude.{◌≢◌, nat_le, nat_lt, IfOk}
use Rattle.child_ports.specs.KeySet.{Keys}
use Rattle.child_ports.specs.declared.fingerprint.Fingerprint.{Fingerprint}
use Rattle.keyring_branch.specs.Armour.{is_binary}
use Rattle.keyring_branch.specs.ArmourReading.{dearmored}
use Rattle.keyring_branch.specs.Fail.{onward, Gives}
use Rattle.keyring_branch.specs.KeyFile.{part_of, keys_of}
use Rattle.keyring_branch.specs.PacketReading.{front_of, packets_from, packet_keys}
use Rattle.keyring_branch.specs.declared.key_fail.KeyFail.{KeyFail}
use Rattle.keyring_branch.specs.declared.key_fail.KeyFail.TheVariants.{Armor, Packet, Length, NoKey, Memory}
use Rattle.keyring_branch.specs.declared.key_file.KeyPart.{KeyPart}
use Rattle.stand_world.specs.Toy.{is_among}

part_from : List ℕ → Keys → Result KeyPart KeyFail
part_from file set = Ok (record { bytes = file; keys = set })

keys_alone : (file : List ℕ) (keys : Result Keys KeyFail)
    → onward {A = KeyPart} (onward {A = Keys} keys (part_from file)) (λ part. Ok part.keys) ≡ keys
unfolding part_from
keys_alone file (Ok set) = refl
keys_alone file (Err fault) = refl

-- a file that is no text is read as packets
pub as_packets : (file : List ℕ) → is_binary file ≡ true → keys_of file ≡ packet_keys file
unfolding part_of dearmored part_from
as_packets file binary = rw binary (keys_alone file (packet_keys file))

below : (b : ℕ) → nat_le 128 b ≡ false → nat_lt b 128 ≡ true
below b text = grind (arith, nat_tests)

-- what is no packet has no keys
pub no_packets : (key : Fingerprint) (file : List ℕ) → is_binary file ≡ false → is_among key (packet_keys file) ≡ false
unfolding packet_keys packets_from front_of
no_packets key [] text = refl
no_packets key (b ∷ bytes) text = rw (below b text)

pub with_keys : (key : Fingerprint) (file : List ℕ) (keys : Keys) → is_binary file ≡ true → keys_of file ≡ Ok keys → set.contains keys key ≡ is_among key (packet_keys file)
with_keys key file keys binary read = ap (is_among key) (sym read ∙ as_packets file binary)

faulty : (key : Fingerprint) (file : List ℕ) (fault : KeyFail) → is_binary file ≡ true → keys_of file ≡ Err fault → false ≡ is_among key (packet_keys file)
faulty key file fault binary read = ap (is_among key) (sym read ∙ as_packets file binary)

pub with_fault : (key : Fingerprint) (file : List ℕ) (fault : KeyFail) → is_binary file ≡ true → Gives (Err fault) (keys_of file) → fault ≢ Memory → false ≡ is_among key (packet_keys file)
with_fault key file (Armor at) binary read other = faulty key file (Armor at) binary read
with_fault key file (Packet at) binary read other = faulty key file (Packet at) binary read
with_fault key file (Length at) binary read other = faulty key file (Length at) binary read
with_fault key file NoKey binary read other = faulty key file NoKey binary read
with_fault key file Memory binary read other = absurd (other refl)

-- the same where a call told no fault but want of memory
pub with_answer : {E : Type 0} (key : Fingerprint) (file : List ℕ) (fault : KeyFail) (answer : Result Bool E) → is_binary file ≡ true → Gives (Err fault) (keys_of file)
    → IfOk answer (λ found. (found ≡ false) × (fault ≢ Memory)) → IfOk answer (λ found. found ≡ is_among key (packet_keys file))
with_answer key file fault (Ok found) binary read is = is.0 ∙ with_fault key file fault binary read is.1
with_answer key file fault (Err e) binary read is = tt
