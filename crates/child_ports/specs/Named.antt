-- How many names were asked that are no ids in full.
use Rattle.std.specs.Prelude.{ℕ, ◌+◌, ◌==◌, ◌≤◌, List, length, Bool, false, if◌then◌else◌}
use Rattle.std.specs.List.{list_all}
use Rattle.child_ports.specs.Framed.{is_lower_hex_digit}
use Rattle.child_ports.specs.Causes.{one_more}

-- whether a name is an id in full: 40 lower-case hexadecimal digits
unfoldable pub is_full_id : List ℕ → Bool
is_full_id name = if length name == 40 then list_all is_lower_hex_digit name else false

-- the count once a name was asked: one more, but as it was for an id in full
abbrev pub after_name : List ℕ → ℕ → ℕ
after_name name before = if is_full_id name then before else one_more before

-- at most so many names were asked
abbrev pub NamedAtMost : ℕ → ℕ → ℕ → Type 0
NamedAtMost most before now = (before ≤ now) × (now ≤ before + most)
