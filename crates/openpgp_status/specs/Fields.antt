-- The fields of a VALIDSIG line that are read. GnuPG's doc/DETAILS names them: the first is the fingerprint of the
-- key that signed, the eighth the number of the hash algorithm (RFC 4880, section 9.4), the ninth the class of the
-- signature. That there must be nine, and how the eighth is spelled, is this project's own.
use Rattle.std.specs.Prelude.{ℕ, ◌&&◌, nat_le, if◌then◌else◌, List, length, slice_get, Option, Some, None}
use Rattle.std.specs.List.{list_all}
use Rattle.std.specs.Char.{is_ascii_digit}
use Rattle.std.specs.Option.{option_and_then}
use Rattle.std.specs.Str.Parse.{digits_value}
use Rattle.child_ports.specs.declared.fingerprint.Fingerprint.{Fingerprint}
use Rattle.child_ports.specs.Fingerprint.{fingerprint_of}

-- the number of a hash algorithm: one to three decimal digits, with a value of at most 255
abbrev pub hash_of : List ℕ → Option ℕ
hash_of digits =
    if nat_le 1 (length digits) && nat_le (length digits) 3 && list_all is_ascii_digit digits && nat_le (digits_value 10 digits) 255
    then Some (digits_value 10 digits) else None

-- the key and the hash, if both are there and a ninth field is
abbrev pub all_three : Option Fingerprint → Option ℕ → Option (List ℕ) → Option (Fingerprint × ℕ)
all_three (Some key) (Some hash) (Some ninth) = Some (key, hash)
all_three _ _ _ = None

-- the key and the hash that a VALIDSIG line's fields name: the first is a fingerprint, the eighth a hash's number,
-- and there are at least nine
abbrev pub key_and_hash : List (List ℕ) → Option (Fingerprint × ℕ)
key_and_hash fields = all_three (option_and_then fingerprint_of (slice_get fields 0)) (option_and_then hash_of (slice_get fields 7)) (slice_get fields 8)
