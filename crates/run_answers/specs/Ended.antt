-- How a run ends: an answer is shown, and standard error has one line for a file that gives nothing.
use Rattle.std.specs.Prelude.{◌≡◌, ◌≢◌, ◌⊎◌, ◌++◌, ℕ, List, [], Option, Some, Result, Err}
use Rattle.child_ports.specs.Causes.{Rose, Stayed, one_more}
use Rattle.child_ports.specs.declared.keeper.Pair.{Pair}
use Rattle.child_ports.specs.Keeper.{Kept}
use Rattle.child_ports.specs.Sink.{TakesFront}
use Rattle.auth_engine.specs.declared.engine_fail.EngineFail.TheVariants.{KeepFault, Memory}
use Rattle.auth_report.specs.Texts.{refusal_line}
use Rattle.run_answers.specs.declared.finishing.Ending.{Ending}
use Rattle.run_answers.specs.Answers.{Answer, refused, accepted, IsStopped}
use Rattle.run_answers.specs.Faults.{Counts}
use Rattle.run_answers.specs.Shown.{IsPut, IsStatus}

-- what a sink has taken, and how many of its calls have failed
pub record Sunk : Type 0 where
  pub taken : List ℕ
  pub failed : ℕ

abbrev pub sunk : List ℕ → ℕ → Sunk
sunk taken failed = record { taken = taken; failed = failed }

-- the records, and how many calls of the keeper have failed
pub record Stored : Type 0 where
  pub kept : Kept
  pub failed : ℕ

abbrev pub stored : Kept → ℕ → Stored
stored kept failed = record { kept = kept; failed = failed }

-- Standard output got a text, behind what was put on standard error: the whole text where no call on either failed, else a front of
-- it. After a failed call on standard error nothing was put.
pub record IsOutput (text : List ℕ) (out out' err err' : Sunk) : Type 0 where
  pub front : TakesFront out.taken out'.taken text
  pub whole : Stayed out.failed out'.failed → Stayed err.failed err'.failed → out'.taken ≡ out.taken ++ text
  pub nothing : err'.failed ≢ err.failed → out' ≡ out

-- An answer was shown: its status, its texts and, where no call of the keeper failed, its records.
pub record Shows (answer : Answer) (status : ℕ) (kept kept' : Stored) (out out' err err' : Sunk) : Type 0 where
  pub status_is : IsStatus (Rose out.failed out'.failed ⊎ Rose err.failed err'.failed) answer.status status
  pub output : IsOutput answer.out out out' err err'
  pub line : IsPut err.taken err'.taken answer.err err.failed err'.failed
  pub records : Stayed kept.failed kept'.failed → kept'.kept ≡ answer.kept

-- the answer is this, unless a call failed or memory was wanting
abbrev pub IsItOrStopped : (Answer → Type 0) → Kept → Counts → Counts → Answer → Type 0
IsItOrStopped IsIt kept before now answer = IsIt answer ⊎ IsStopped kept before now answer

-- the same, unless a file can't be read: that is the answer only where a call of the room failed
abbrev pub IsItOrUnread : (Answer → Type 0) → Option Answer → Kept → Counts → Counts → ℕ → ℕ → Answer → Type 0
IsItOrUnread IsIt unread kept before now room_before room_now answer =
    IsItOrStopped IsIt kept before now answer ⊎ ((unread ≡ Some answer) × Rose room_before room_now)

-- The store was called once where there are pairs to be kept, and else never.
abbrev pub StoresOnce : List Pair → ℕ → ℕ → Type 0
StoresOnce pairs before now = (pairs ≡ [] → now ≡ before) × (pairs ≢ [] → now ≡ one_more before)

-- what is accepted was stored and printed, unless memory was wanting or the keeper failed
abbrev pub IsFinished : Kept → Ending → ℕ → ℕ → Answer → Type 0
IsFinished kept ending before now answer =
    (answer ≡ accepted kept ending) ⊎ (answer ≡ refused kept Memory) ⊎ ((answer ≡ refused kept KeepFault) × Rose before now)

-- A file gave nothing, and this was told: its own refusal, or want of memory, or that it can't be read, which comes only where
-- a call of the room failed.
abbrev pub TellsNone : {T F : Type 0} → Result T F → (F → List ℕ) → List ℕ → ℕ → Sunk → Sunk → ℕ → ℕ → Type 0
TellsNone {F = F} found line unread status err err' room_before room_now =
    ((fail : F) × (found ≡ Err fail) × (status ≡ 3) × IsPut err.taken err'.taken (line fail) err.failed err'.failed)
    ⊎ ((status ≡ 6) × IsPut err.taken err'.taken (refusal_line Memory) err.failed err'.failed)
    ⊎ ((status ≡ 5) × IsPut err.taken err'.taken unread err.failed err'.failed × Rose room_before room_now)
