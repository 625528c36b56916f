-- Fingerprints of version 4 keys as texts. The 20 bytes are those of RFC 9580, section 5.5.4.2; that white space
-- may stand anywhere between the digits is this project's own.
use Rattle.std.specs.Prelude.{ℕ, Bool, not, ◌||◌, ◌==◌, nat_le, ◌&&◌, List, filter, Option, Some, None, Result, Ok, Err}
use Rattle.hex.specs.declared.error.FromHexError.{FromHexError}
use Rattle.hex.specs.Hex.{decode_sized}
use Rattle.child_ports.specs.declared.fingerprint.Fingerprint.{Fingerprint}

-- tab, line feed, vertical tab, form feed, carriage return, or space
abbrev pub is_blank : ℕ → Bool
is_blank c = (nat_le 9 c && nat_le c 13) || c == 32

-- a text without its white space
abbrev pub squeezed : List ℕ → List ℕ
squeezed text = filter (λ c. not (is_blank c)) text

-- the fingerprint of these bytes, if there are any
abbrev pub fingerprint_from : Result (List ℕ) FromHexError → Option Fingerprint
fingerprint_from (Ok bytes) = Some (record { 0 = bytes })
fingerprint_from (Err e) = None

-- what 40 hexadecimal digits of either case stand for: 20 bytes, of two digits each. Anything else is no fingerprint.
abbrev pub fingerprint_of : List ℕ → Option Fingerprint
fingerprint_of digits = fingerprint_from (decode_sized digits 20)

-- what a text stands for: its digits, once white space is out
abbrev pub fingerprint_in : List ℕ → Option Fingerprint
fingerprint_in text = fingerprint_of (squeezed text)
