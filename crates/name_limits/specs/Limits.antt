-- What words, names and keys may be. The limits are this project's own.
use Rattle.std.specs.Prelude.{ℕ, Bool, not, ◌&&◌, ◌||◌, ◌==◌, nat_le, nat_eq, bytes_eq, codes, List, length}
use Rattle.std.specs.List.{list_all, slice_split, starts_with}

-- neither below 32 nor 127
abbrev pub is_plain_byte : ℕ → Bool
is_plain_byte b = nat_le 32 b && not (b == 127)

-- no byte below 32, and none 127
abbrev pub are_plain : List ℕ → Bool
are_plain bytes = list_all is_plain_byte bytes

-- a word: plain, of at most 4,096 bytes
abbrev pub is_word : List ℕ → Bool
is_word word = nat_le (length word) 4096 && are_plain word

-- a file or a directory: plain, and not empty
abbrev pub is_path : List ℕ → Bool
is_path path = nat_le 1 (length path) && are_plain path

-- a name or reference of git in a word: plain, of 1 to 900 bytes
abbrev pub is_reference : List ℕ → Bool
is_reference name = nat_le 1 (length name) && nat_le (length name) 900 && are_plain name

-- a name that git can be asked: plain, of 1 to 1,024 bytes
abbrev pub is_askable : List ℕ → Bool
is_askable name = nat_le 1 (length name) && nat_le (length name) 1024 && are_plain name

-- an ASCII letter or digit, or one of - _ + . /
abbrev pub is_key_byte : ℕ → Bool
is_key_byte b = (nat_le 97 b && nat_le b 122) || (nat_le 65 b && nat_le b 90) || (nat_le 48 b && nat_le b 57)
    || b == 45 || b == 95 || b == 43 || b == 46 || b == 47

-- a part of a key between `/`: not empty, and neither `.` nor `..`
abbrev pub is_key_part : List ℕ → Bool
is_key_part part = nat_le 1 (length part) && not (bytes_eq part (codes ".")) && not (bytes_eq part (codes ".."))

-- it begins with `deployed/`
abbrev pub is_deployed : List ℕ → Bool
is_deployed key = starts_with nat_eq key (codes "deployed/")

-- a key of the cache: 1 to 200 such bytes, in such parts, and not one of those for what is deployed
unfoldable pub is_cache_key : List ℕ → Bool
is_cache_key key = nat_le 1 (length key) && nat_le (length key) 200 && list_all is_key_byte key
    && list_all is_key_part (slice_split (λ b. b == 47) key) && not (is_deployed key)
