-- What was put into sinks.
use Rattle.std.specs.Prelude.{◌≡◌, ◌⊎◌, ◌++◌, ℕ, List}
use Rattle.child_ports.specs.Causes.{Stayed}
use Rattle.child_ports.specs.Sink.{TakesFront}
use Rattle.auth_engine.specs.declared.engine_fail.EngineFail.{EngineFail}
use Rattle.auth_engine.specs.declared.engine_fail.EngineFail.TheVariants.{Memory}
use Rattle.auth_report.specs.declared.files.FileFail.{FileFail}
use Rattle.auth_report.specs.declared.files.FileFail.TheVariants as file
use Rattle.auth_report.specs.FileTexts.{file_line}
use Rattle.auth_report.specs.Texts.{refusal_line}
use Rattle.run_answers.specs.Answers.{status_of}

-- a sink got a text: the whole text where no call failed, and else a front of it
pub record IsPut (old new text : List ℕ) (before now : ℕ) : Type 0 where
  pub front : TakesFront old new text
  pub whole : Stayed before now → new ≡ old ++ text

-- A refusal was shown: its line was put on standard error, and the status is its own, or those of want of memory.
abbrev pub ShowsRefusal : EngineFail → ℕ → List ℕ → List ℕ → ℕ → ℕ → Type 0
ShowsRefusal fail status old new before now =
    ((status ≡ status_of fail) × IsPut old new (refusal_line fail) before now)
    ⊎ ((status ≡ status_of Memory) × IsPut old new (refusal_line Memory) before now)

-- The refusal of a file that was read was shown: its line was put on standard error with status 3, or want of memory was told.
abbrev pub ShowsRead : List ℕ → FileFail → ℕ → List ℕ → List ℕ → ℕ → ℕ → Type 0
ShowsRead path fail status old new before now =
    ((status ≡ 3) × IsPut old new (file_line path fail) before now)
    ⊎ ((status ≡ status_of Memory) × IsPut old new (refusal_line Memory) before now)

-- A refusal of a file was shown. That it can't be read is always told as such, with status 5.
abbrev pub ShowsFile : List ℕ → FileFail → ℕ → List ℕ → List ℕ → ℕ → ℕ → Type 0
ShowsFile path file.Failed status old new before now = (status ≡ 5) × IsPut old new (file_line path file.Failed) before now
ShowsFile path file.Memory status old new before now = (status ≡ status_of Memory) × IsPut old new (refusal_line Memory) before now
ShowsFile path fail status old new before now = ShowsRead path fail status old new before now

-- the status that a refusal of a file has: 5 where it can't be read, 6 for want of memory, else 3 or 6
abbrev pub IsFileStatus : FileFail → ℕ → Type 0
IsFileStatus file.Failed status = status ≡ 5
IsFileStatus file.Memory status = status ≡ 6
IsFileStatus fail status = (status ≡ 3) ⊎ (status ≡ 6)

-- the status is the answer's, or 5 in place of 0, only where a text was lost
abbrev pub IsStatus : Type 0 → ℕ → ℕ → Type 0
IsStatus Lost due status = (status ≡ due) ⊎ ((due ≡ 0) × (status ≡ 5) × Lost)
