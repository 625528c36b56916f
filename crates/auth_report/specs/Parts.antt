-- How names are printed, and lines begin and end.
use Rattle.std.specs.Prelude.{ℕ, ◌||◌, nat_lt, nat_eq, if◌then◌else◌, List, [], ◌∷◌, ◌++◌, map, codes}

-- a line on standard error
abbrev pub line_of : List ℕ → List ℕ
line_of text = codes "guix-auth: " ++ text ++ 10 ∷ []

abbrev pub git_failed : List ℕ
git_failed = codes "git failed"

abbrev pub gpgv_failed : List ℕ
gpgv_failed = codes "gpgv failed"

abbrev pub store_failed : List ℕ
store_failed = codes "the store failed"

abbrev pub out_of_memory : List ℕ
out_of_memory = codes "out of memory"

-- a byte of a name as it is printed: a question mark for one below 32 and for 127
abbrev pub shown_byte : ℕ → ℕ
shown_byte b = if nat_lt b 32 || nat_eq b 127 then 63 else b

abbrev pub shown : List ℕ → List ℕ
shown name = map shown_byte name
