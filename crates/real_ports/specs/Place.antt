-- Where programs and records stand, by the variables of the environment.
use Rattle.std.specs.Prelude.{◌≡◌, ◌≢◌, ℕ, List, [], ◌++◌, codes, Option, Some, None, Result, Ok, IsErrAnd, String, string_bytes}
use Rattle.std.specs.IoError.{error_kind}
use Rattle.std.specs.declared.io.Error.{Error}
use Rattle.std.specs.declared.io.ErrorKind.TheVariants as kind
use Rattle.std.specs.declared.env.VarError.{VarError}
use Rattle.std.specs.declared.env.VarError.TheVariants as var

-- A variable without a value counts as not set (XDG Base Directory Specification, "Environment variables").
pub record IsSetting {A : Type 0} (text : String A) (result : Result (Option (String A)) Error) : Type 0 where
  pub empty : string_bytes text ≡ [] → result ≡ Ok None
  pub full : string_bytes text ≢ [] → result ≡ Ok (Some text)

-- one that isn't there is not set; one that can't be read is an error
abbrev pub TellsUnread : {T : Type 0} → VarError → Result (Option T) Error → Type 0
TellsUnread var.NotPresent result = result ≡ Ok None
TellsUnread var.NotUnicode result = IsErrAnd result (λ e. error_kind e ≡ kind.InvalidData)
TellsUnread var.OutOfMemory result = IsErrAnd result (λ e. error_kind e ≡ kind.OutOfMemory)

-- the text that is set, or the usual one
abbrev pub set_or : {A : Type 0} → Option (String A) → List ℕ → List ℕ
set_or None usual = usual
set_or (Some text) usual = string_bytes text

-- the folder of the records in the user's cache
abbrev pub root_in : List ℕ → List ℕ
root_in cache = cache ++ codes "/guix/authentication"

-- the same in the home folder, or where none is set in the folder that the program runs in
abbrev pub root_of_home : {A : Type 0} → Option (String A) → List ℕ
root_of_home None = codes ".cache/guix/authentication"
root_of_home (Some home) = string_bytes home ++ codes "/.cache/guix/authentication"
