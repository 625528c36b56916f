-- What was told of a list, and of a set that isn't accepted.
use Rattle.std.specs.Prelude.{◌≡◌, ◌⊎◌, ℕ, List, Bool, false, nat_eq, Result, Ok, Err}
use Rattle.auth_engine.specs.declared.engine_fail.EngineFail.TheVariants.{Memory}
use Rattle.auth_report.specs.declared.files.FileFail.TheVariants as file
use Rattle.auth_report.specs.FileTexts.{file_line}
use Rattle.auth_report.specs.Texts.{refusal_line}
use Rattle.channel_file.specs.declared.channel.Channel.{Channel}
use Rattle.channel_deps.specs.declared.set_fail.SetFail.{SetFail}
use Rattle.set_report.specs.SetTexts.{set_refusal_line}
use Rattle.run_answers.specs.Shown.{IsPut, IsFileStatus, ShowsFile}
use Rattle.channels_run.specs.declared.listing.ListFail.{ListFail}
use Rattle.channels_run.specs.declared.listing.ListFail.TheVariants.{File, Malformed}
use Rattle.channels_run.specs.Answers.{set_status}
use Rattle.channels_run.specs.Listing.{trouble_line}

-- A set's refusal was shown: its line was put on standard error, and the status is its own, or those of want of memory.
abbrev pub ShowsSetRefusal : SetFail → ℕ → List ℕ → List ℕ → ℕ → ℕ → Type 0
ShowsSetRefusal fail status old new before now =
    ((status ≡ set_status fail) × IsPut old new (set_refusal_line fail) before now)
    ⊎ ((status ≡ 6) × IsPut old new (refusal_line Memory) before now)

-- A refusal of a list was shown. That its file can't be read is always told as such, with status 5.
abbrev pub ShowsList : List ℕ → ListFail → ℕ → List ℕ → List ℕ → ℕ → ℕ → Type 0
ShowsList path (File fail) status old new before now = ShowsFile path fail status old new before now
ShowsList path (Malformed fail) status old new before now =
    ((status ≡ 3) × IsPut old new (trouble_line path (Malformed fail)) before now)
    ⊎ ((status ≡ 6) × IsPut old new (refusal_line Memory) before now)

-- the status that a refusal of a list has
abbrev pub IsListStatus : ListFail → ℕ → Type 0
IsListStatus (File fail) status = IsFileStatus fail status
IsListStatus (Malformed fail) status = (status ≡ 3) ⊎ (status ≡ 6)

-- the status of a file that can't be read
abbrev pub is_unread_status : {T : Type 0} → Result T ℕ → Bool
is_unread_status (Ok x) = false
is_unread_status (Err status) = nat_eq status 5
