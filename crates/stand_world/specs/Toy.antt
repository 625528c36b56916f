-- Toy signatures, and what they are worth under a keyring: status lines in the form of GnuPG's doc/DETAILS.
use Rattle.std.specs.Prelude.{◌≡◌, ◌<◌, ℕ, Bool, false, if◌then◌else◌, Option, Some, None, Result, Ok, Err, List, ◌++◌, length, drop, codes, decimal, bytes_eq, slice_get}
use Rattle.std.specs.FinSet as set
use Rattle.hex.specs.Hex.{IsBytes, encode_lower, encode_upper}
use Rattle.sha1.specs.Sha1.{sha1}
use Rattle.byte_cuts.specs.Cuts.{parts_at}
use Rattle.child_ports.specs.Fingerprint.{fingerprint_of}
use Rattle.child_ports.specs.KeySet.{Keys}
use Rattle.child_ports.specs.declared.fingerprint.Fingerprint.{Fingerprint}
use Rattle.object_frames.specs.Id.{id_in}
use Rattle.keyring_branch.specs.PacketReading.{packet_keys}
use Rattle.keyring_branch.specs.declared.key_fail.KeyFail.{KeyFail}
use Rattle.stand_world.specs.Names.{hash_in}
use Rattle.stand_world.specs.declared.toy.Toy.{Toy}

-- the signature of this key with this hash number and this digest: four lines
abbrev pub toy_bytes : Toy → List ℕ
toy_bytes toy = codes "TOY SIGNATURE\nkey " ++ encode_upper toy.key.0 ++ codes "\nhash " ++ decimal toy.hash ++ codes "\nsha1 " ++ encode_lower toy.digest ++ codes "\n"

-- the signature that a key makes on a payload
abbrev pub signature_of : Fingerprint → ℕ → List ℕ → List ℕ
signature_of key hash payload = toy_bytes (record { key = key; hash = hash; digest = sha1 payload })

-- 20 bytes of a fingerprint and of a digest, and a hash number of one byte
pub record IsToy (toy : Toy) : Type 0 where
  pub key_size : length toy.key.0 ≡ 20
  pub key_bytes : IsBytes toy.key.0
  pub hash : toy.hash < 256
  pub digest_size : length toy.digest ≡ 20
  pub digest_bytes : IsBytes toy.digest

-- the bytes are this signature
pub record IsSignature (bytes : List ℕ) (toy : Toy) : Type 0 where
  pub fit : IsToy toy
  pub whole : bytes ≡ toy_bytes toy

-- ---- reading

infixl 10 ◌>>=◌
abbrev pub ◌>>=◌ : {A B : Type 0} → Option A → (A → Option B) → Option B
None >>= next = None
Some x >>= next = next x

-- what its second, third and fourth lines say behind their words, if it has these lines
abbrev pub toy_in : List ℕ → Option Toy
toy_in signature = do
  key_line ← slice_get (parts_at 10 signature) 1
  key ← fingerprint_of (drop 4 key_line)
  hash_line ← slice_get (parts_at 10 signature) 2
  hash ← hash_in (drop 5 hash_line)
  digest_line ← slice_get (parts_at 10 signature) 3
  digest ← id_in (drop 5 digest_line)
  Some (record { key = key; hash = hash; digest = digest })

abbrev pub if_spelled : List ℕ → Option Toy → Option Toy
if_spelled signature None = None
if_spelled signature (Some toy) = if bytes_eq (toy_bytes toy) signature then Some toy else None

-- the key, the hash number and the digest that these bytes are the signature of, if they are one to the byte
unfoldable pub toy_of : List ℕ → Option Toy
toy_of signature = if_spelled signature (toy_in signature)

-- ---- status

-- the last sixteen digits of a fingerprint
abbrev pub short_id : Fingerprint → List ℕ
short_id key = drop 24 (encode_upper key.0)

abbrev pub no_data : List ℕ
no_data = codes "[GNUPG:] NODATA 1\n"

abbrev pub no_key : Toy → List ℕ
no_key toy = codes "[GNUPG:] ERRSIG " ++ short_id toy.key ++ codes " 1 " ++ decimal toy.hash ++ codes " 00 0 9\n[GNUPG:] NO_PUBKEY " ++ short_id toy.key ++ codes "\n"

abbrev pub bad_signature : Toy → List ℕ
bad_signature toy = codes "[GNUPG:] BADSIG " ++ short_id toy.key ++ codes " toy\n"

abbrev pub good_signature : Toy → List ℕ
good_signature toy = codes "[GNUPG:] GOODSIG " ++ short_id toy.key ++ codes " toy\n[GNUPG:] VALIDSIG " ++ encode_upper toy.key.0 ++ codes " 2020-01-01 1577836800 0 4 0 1 " ++ decimal toy.hash ++ codes " 00 " ++ encode_upper toy.key.0 ++ codes "\n"

-- whether the key is among those of a keyring that could be read
abbrev pub is_among : Fingerprint → Result Keys KeyFail → Bool
is_among key (Ok keys) = set.contains keys key
is_among key (Err fault) = false

-- what is said of bytes on a payload, under the keys of a keyring: they are no signature; it is of another key; it is of
-- another payload; or it is good
abbrev pub status_under : Result Keys KeyFail → List ℕ → Option Toy → List ℕ
status_under keys payload None = no_data
status_under keys payload (Some toy) =
    if is_among toy.key keys
    then (if bytes_eq toy.digest (sha1 payload) then good_signature toy else bad_signature toy)
    else no_key toy

-- the same under a keyring as packets
abbrev pub status_of : List ℕ → List ℕ → List ℕ → List ℕ
status_of keyring signature payload = status_under (packet_keys keyring) payload (toy_of signature)
