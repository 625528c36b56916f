-- What the names and addresses of channels may be. The limits are this project's own.
use Rattle.std.specs.Prelude.{ℕ, Bool, false, ◌&&◌, ◌||◌, ◌==◌, nat_le, List, [], ◌∷◌, length}
use Rattle.std.specs.List.{list_all}
use Rattle.name_limits.specs.Limits.{is_word, is_path}

-- an ASCII letter or digit
abbrev pub is_alphanumeric : ℕ → Bool
is_alphanumeric b = (nat_le 97 b && nat_le b 122) || (nat_le 65 b && nat_le b 90) || (nat_le 48 b && nat_le b 57)

-- one of these, or one of - _ + .
abbrev pub is_name_byte : ℕ → Bool
is_name_byte b = is_alphanumeric b || b == 45 || b == 95 || b == 43 || b == 46

-- the first is a letter or a digit
abbrev pub begins_so : List ℕ → Bool
begins_so [] = false
begins_so (b ∷ bs) = is_alphanumeric b

-- a channel's name: 1 to 64 such bytes, the first a letter or a digit
abbrev pub is_channel_name : List ℕ → Bool
is_channel_name name = nat_le (length name) 64 && begins_so name && list_all is_name_byte name

-- a channel's address: not empty, of at most 4,096 bytes, none below 32 and none 127
abbrev pub is_url : List ℕ → Bool
is_url url = is_path url && is_word url
