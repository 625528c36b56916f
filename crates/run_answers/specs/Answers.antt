-- What a run answers: status, texts and records.
use Rattle.std.specs.Prelude.{◌≡◌, ℕ, List, []}
use Rattle.child_ports.specs.Keeper.{Kept, with_pairs}
use Rattle.auth_engine.specs.declared.engine_fail.EngineFail.{EngineFail}
use Rattle.auth_engine.specs.declared.engine_fail.EngineFail.TheVariants.{Name, Keyring, Cache, TooMany, Object, Cycle, Intro, Unrelated, Commit, GitFault, SigFault, KeepFault, Memory}
use Rattle.auth_report.specs.Texts.{refusal_line}
use Rattle.run_answers.specs.declared.finishing.Ending.{Ending}
use Rattle.run_answers.specs.Faults.{Counts, HasCause}

-- the status, what is put on standard output and standard error, and the records behind the run
pub record Answer : Type 0 where
  pub status : ℕ
  pub out : List ℕ
  pub err : List ℕ
  pub kept : Kept

-- 1: the target isn't authentic. 3: the check stops before. 4: a child's fault. 5: the store's. 6: want of memory.
abbrev pub status_of : EngineFail → ℕ
status_of (Name which what) = 3
status_of (Keyring why) = 3
status_of (Cache why) = 3
status_of TooMany = 3
status_of (Object id what) = 3
status_of (Cycle id) = 3
status_of (Intro id cause) = 1
status_of (Unrelated target intro) = 1
status_of (Commit id cause) = 1
status_of GitFault = 4
status_of SigFault = 4
status_of KeepFault = 5
status_of Memory = 6

-- a refusal is one line on standard error
abbrev pub refused : Kept → EngineFail → Answer
refused kept fail = record { status = status_of fail; out = []; err = refusal_line fail; kept = kept }

-- what is accepted is printed, and what is to be kept is put among the records
abbrev pub accepted : Kept → Ending → Answer
accepted kept ending = record { status = 0; out = ending.output; err = ending.warnings; kept = with_pairs kept ending.store }

-- a fault is the answer only where a call on its port failed; want of memory may be the answer at any time
abbrev pub IsStopped : Kept → Counts → Counts → Answer → Type 0
IsStopped kept before now answer = (stop : EngineFail) × HasCause stop before now × (answer ≡ refused kept stop)
