-- What a file of historical keys gives.
use Rattle.std.specs.Prelude.{◌≡◌, ℕ, Bool, true, false, nat_lt, if◌then◌else◌, List, length, Option, Some, None, Result, Ok, Err}
use Rattle.std.specs.FinMap as map
use Rattle.child_ports.specs.Keeper.{Kept}
use Rattle.child_ports.specs.KeySet.{Keys}
use Rattle.authorizations.specs.declared.fail.AuthFail.{AuthFail}
use Rattle.authorizations.specs.Reading.{keys_of}
use Rattle.auth_report.specs.declared.files.FileFail.{FileFail}
use Rattle.auth_report.specs.declared.files.FileFail.TheVariants.{Missing, TooLong, Malformed, Failed, Memory}

abbrev pub or_malformed : Result Keys AuthFail → Result Keys FileFail
or_malformed (Ok keys) = Ok keys
or_malformed (Err fail) = Err (Malformed fail)

-- the keys of a file's bytes, which are at most 1,048,576
abbrev pub keys_in : List ℕ → Result Keys FileFail
keys_in bytes = if nat_lt 1048576 (length bytes) then Err TooLong else or_malformed (keys_of bytes)

abbrev pub keys_found : Option (List ℕ) → Result Keys FileFail
keys_found (Some bytes) = keys_in bytes
keys_found None = Err Missing

-- the keys of the file at a path
abbrev pub keys_at : Kept → List ℕ → Result Keys FileFail
keys_at files path = keys_found (map.get files path)

-- What was answered is this, unless the file couldn't be read or memory ran out.
abbrev pub GivesKeys : Result Keys FileFail → Result Keys FileFail → Type 0
GivesKeys (Ok keys) due = due ≡ Ok keys
GivesKeys (Err Failed) due = Unit {0}
GivesKeys (Err Memory) due = Unit {0}
GivesKeys (Err fail) due = due ≡ Err fail

-- the file couldn't be read
abbrev pub is_unread : FileFail → Bool
is_unread Failed = true
is_unread _ = false

abbrev pub is_failed : {T : Type 0} → Result T FileFail → Bool
is_failed (Ok keys) = false
is_failed (Err fail) = is_unread fail
