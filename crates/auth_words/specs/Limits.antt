-- Values that may not have been given.
use Rattle.std.specs.Prelude.{ℕ, Bool, true, List, Option, Some, None}

-- the value that an option has been given, if it has one, is so
abbrev pub fits : (List ℕ → Bool) → Option (List ℕ) → Bool
fits test None = true
fits test (Some value) = test value
