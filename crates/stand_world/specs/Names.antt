-- Names of keys, commits and branches, and hash numbers.
use Rattle.std.specs.Prelude.{◌&&◌, ◌||◌, ℕ, zero, suc, ◌+◌, nat_le, Bool, if◌then◌else◌, Option, Some, None, List, length, decimal, bytes_eq}
use Rattle.std.specs.List.{list_all}

-- a letter from a to z, or a digit
abbrev pub is_name_byte : ℕ → Bool
is_name_byte c = (nat_le 97 c && nat_le c 122) || (nat_le 48 c && nat_le c 57)

-- one to sixteen of them
abbrev pub is_name : List ℕ → Bool
is_name name = nat_le 1 (length name) && nat_le (length name) 16 && list_all is_name_byte name

-- which of so many numbers, from the first on, has these decimal digits
unfoldable pub number_among : ℕ → ℕ → List ℕ → Option ℕ
number_among zero first digits = None
number_among (suc count) first digits = if bytes_eq (decimal first) digits then Some first else number_among count (first + 1) digits

-- the number of a hash that has these decimal digits: 0 to 255, without leading zeros
abbrev pub hash_in : List ℕ → Option ℕ
hash_in digits = number_among 256 0 digits
