-- What a run is given by the system, and how the program ends.
use Rattle.std.specs.Prelude.{◌≡◌, ◌≢◌, ℕ, Bool, true, false, if◌then◌else◌, List, [], map, drop, codes, Result, Ok, Err, string_bytes}
use Rattle.std.specs.Vec.Iter.{into_iter_items}
use Rattle.std.specs.declared.vec.IntoIter.{IntoIter}
use Rattle.std.specs.declared.alloc.Global.{Global}
use Rattle.std.specs.declared.string.String.{String}
use Rattle.std.specs.IoError.{error_kind}
use Rattle.std.specs.declared.io.Error.{Error}
use Rattle.std.specs.declared.io.ErrorKind.{ErrorKind}
use Rattle.std.specs.declared.io.ErrorKind.TheVariants.{OutOfMemory, InvalidData}
use Rattle.auth_report.specs.Parts.{line_of, out_of_memory}

abbrev pub Args : Type 0
Args = IntoIter (String Global) Global

-- the program's arguments without the first, which is its name
abbrev pub words_of : Args → List (List ℕ)
words_of args = map string_bytes (drop 1 (into_iter_items args))

-- Which words a run is given. An argument that isn't UTF-8 makes them none, which state no command; any other failure, and want
-- of memory, is told as it is.
abbrev pub AreGiven : Result Args Error → Result (List (List ℕ)) Error → Type 0
AreGiven (Ok args) (Ok words) = words ≡ words_of args
AreGiven (Ok args) (Err e) = error_kind e ≡ OutOfMemory
AreGiven (Err why) (Ok words) = (error_kind why ≡ InvalidData) × (words ≡ [])
AreGiven (Err why) (Err e) = (error_kind why ≢ InvalidData) × (e ≡ why)

abbrev pub is_want : ErrorKind → Bool
is_want OutOfMemory = true
is_want _ = false

-- The status that the program ends with: that of its run. Where no run could begin it is 6 for want of memory, and else 3: the
-- environment can't be read.
abbrev pub status_of : Result ℕ Error → ℕ
status_of (Ok status) = status
status_of (Err e) = if is_want (error_kind e) then 6 else 3

-- the line where no run could begin
abbrev pub line_of_failure : Error → List ℕ
line_of_failure e = line_of (if is_want (error_kind e) then out_of_memory else codes "the environment cannot be read")
