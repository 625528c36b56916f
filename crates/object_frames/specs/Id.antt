-- Ids of objects in Git's sha1 format (gitformat-pack(5), "object name").
use Rattle.std.specs.Prelude.{◌≡◌, ℕ, List, length, Option, Some, None, Result, Ok, Err}
use Rattle.hex.specs.declared.error.FromHexError.{FromHexError}
use Rattle.hex.specs.Hex.{IsBytes, decode_sized}

-- 20 bytes
pub record IsId (id : List ℕ) : Type 0 where
  pub count : length id ≡ 20
  pub bytes : IsBytes id

abbrev pub id_from : Result (List ℕ) FromHexError → Option (List ℕ)
id_from (Ok bytes) = Some bytes
id_from (Err e) = None

-- the id that 40 hexadecimal digits of either case stand for; anything else is no id
abbrev pub id_in : List ℕ → Option (List ℕ)
id_in text = id_from (decode_sized text 20)
