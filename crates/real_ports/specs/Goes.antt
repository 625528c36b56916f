-- How a header line goes on, as its bytes go by.
use Rattle.std.specs.Prelude.{◌≡◌, ◌<◌, ◌≤◌, ◌+◌, ℕ, Bool, true, false, List, ◌++◌, length}
use Rattle.real_ports.specs.declared.rest.Rest.{Rest}
use Rattle.real_ports.specs.declared.rest.Rest.TheVariants.{Header, Unknown}
use Rattle.real_ports.specs.Rest.{IsBehind}

-- a line that has its end says what comes behind it, and before its end the line itself is to come
abbrev pub GoesOn : List ℕ → List ℕ → Bool → Rest → Type 0
GoesOn name whole true rest = IsBehind name whole rest
GoesOn name whole false rest = rest ≡ Header

-- A line of at most 1,035 bytes, which answers the name, goes on with a part. Of a longer one nobody knows what comes.
pub record Goes (name line part : List ℕ) (ends : Bool) (rest : Rest) (now : List ℕ) : Type 0 where
  pub long : 1035 < length line + length part → rest ≡ Unknown
  pub joined : length line + length part ≤ 1035 → now ≡ line ++ part
  pub told : length line + length part ≤ 1035 → GoesOn name (line ++ part) ends rest
