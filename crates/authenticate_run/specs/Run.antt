-- What a run of `authenticate` comes to.
use Rattle.std.specs.Prelude.{◌≡◌, ◌≢◌, ◌⊎◌, ℕ, Bool, false, nat_eq, List, Some, Result, Ok, Err, MatchResult, IfOk}
use Rattle.child_ports.specs.Keeper.{Kept}
use Rattle.child_ports.specs.KeySet.{Keys}
use Rattle.auth_engine.specs.declared.task.Verdict.{Verdict}
use Rattle.auth_engine.specs.declared.engine_fail.EngineFail.{EngineFail}
use Rattle.auth_engine.specs.Answers.{OnFinding}
use Rattle.auth_engine.specs.Asked.{Asks}
use Rattle.auth_engine.specs.Outcome.{IsOutcome, IsVerdictOver, HasAuthenticTarget}
use Rattle.auth_report.specs.declared.files.FileFail.TheVariants as file
use Rattle.auth_report.specs.FileTexts.{file_line}
use Rattle.auth_words.specs.declared.plan.Plan.{Plan}
use Rattle.run_answers.specs.Answers.{status_of}
use Rattle.run_answers.specs.Ended.{Sunk, StoresOnce, TellsNone}
use Rattle.authenticate_run.specs.Answers.{pairs_of, with_store}
use Rattle.channel_deps.specs.Outside.{Outside}
use Rattle.authenticate_run.specs.Outside.{task_for, historical_of, cache_in, HasSoundOrNone}

-- The file of a plan, which names one, gave no keys, and this was told.
abbrev pub TellsNoKeys : Kept → Plan → ℕ → Sunk → Sunk → ℕ → ℕ → Type 0
TellsNoKeys files plan status err err' room_before room_now = (path : List ℕ) × (plan.historical ≡ Some path)
    × TellsNone (historical_of files plan) (file_line path) (file_line path file.Failed) status err err' room_before room_now

-- the status of a file that can't be read
abbrev pub is_unread_status : Result Keys ℕ → Bool
is_unread_status (Ok keys) = false
is_unread_status (Err status) = nat_eq status 5

-- The records are those of before or, only where the target is accepted, those with what its verdict has to be kept.
abbrev pub KeepsOrStores : Outside → Plan → Keys → Kept → Type 0
KeepsOrStores o plan keys after = (after ≡ o.kept)
    ⊎ ((verdict : Verdict) × IsOutcome o.answers o.verdicts (task_for plan keys) (cache_in o.kept plan) (Ok verdict) × (after ≡ with_store o.kept verdict.store))

-- Whatever is kept, sound or not, the records are those of before, or those with what the verdict over it has to be kept: the target
-- before the entries that were read, at the plan's key.
abbrev pub KeepsOrPuts : Outside → Plan → Keys → Kept → Type 0
KeepsOrPuts o plan keys after = (after ≡ o.kept)
    ⊎ ((verdict : Verdict) × IsVerdictOver o.answers o.verdicts (task_for plan keys) (cache_in o.kept plan) verdict × (after ≡ with_store o.kept verdict.store))

-- the same by what the file of a plan gives: nothing is put where it gives no keys
abbrev pub PutsFor : Outside → Kept → Plan → Kept → Type 0
PutsFor o files plan after = MatchResult (historical_of files plan) (λ keys. KeepsOrPuts o plan keys after) (λ _. after ≡ o.kept)

-- The store wasn't called, and the status isn't 0; or there is a verdict over what is kept, and it was called once where that has
-- something to be kept, and else not.
abbrev pub StoresVerdict : Outside → Plan → Keys → ℕ → ℕ → ℕ → Type 0
StoresVerdict o plan keys status before now = ((now ≡ before) × (status ≢ 0))
    ⊎ ((verdict : Verdict) × IsVerdictOver o.answers o.verdicts (task_for plan keys) (cache_in o.kept plan) verdict × StoresOnce (pairs_of verdict.store) before now)

-- the same by what the file of a plan gives: the store isn't called where it gives no keys
abbrev pub StoresFor : Outside → Kept → Plan → ℕ → ℕ → ℕ → Type 0
StoresFor o files plan status before now = MatchResult (historical_of files plan) (λ keys. StoresVerdict o plan keys status before now) (λ _. now ≡ before)

-- this status can come with what was found
abbrev pub Tells : Result Verdict EngineFail → ℕ → Type 0
Tells (Ok verdict) status = (status ≡ 0) ⊎ (status ≡ 5) ⊎ (status ≡ 6)
Tells (Err fail) status = (status ≡ status_of fail) ⊎ (status ≡ 6)

-- What was found is the outcome, where what is kept is sound or no cache text, unless it is a fault or want of memory. A verdict is
-- that over what is kept, sound or not.
abbrev pub IsFound : Outside → Plan → Keys → Result Verdict EngineFail → Type 0
IsFound o plan keys found = (HasSoundOrNone o plan keys → OnFinding found (IsOutcome o.answers o.verdicts (task_for plan keys) (cache_in o.kept plan) found))
    × IfOk found (IsVerdictOver o.answers o.verdicts (task_for plan keys) (cache_in o.kept plan))

-- gpgv was asked as often as it takes what was found, which the status tells of
abbrev pub AsksAsTold : Outside → Plan → Keys → ℕ → ℕ → ℕ → Type 0
AsksAsTold o plan keys status before now = (found : Result Verdict EngineFail) × IsFound o plan keys found
    × Asks o.answers o.verdicts (task_for plan keys) (cache_in o.kept plan) found before now × Tells found status

-- it wasn't asked, since the file of the plan couldn't be read or memory was wanting
abbrev pub StopsUnasked : ℕ → ℕ → ℕ → Type 0
StopsUnasked status before now = (now ≡ before) × ((status ≡ 5) ⊎ (status ≡ 6))

-- the questions of a run, by what the file of its plan gives
abbrev pub AsksFor : Outside → Kept → Plan → ℕ → ℕ → ℕ → Type 0
AsksFor o files plan status before now = MatchResult (historical_of files plan)
    (λ keys. AsksAsTold o plan keys status before now ⊎ StopsUnasked status before now)
    (λ fail. ((now ≡ before) × (status ≡ 3)) ⊎ StopsUnasked status before now)

-- the target of a plan is authentic under the historical keys that its file gives
abbrev pub IsAuthenticFor : Outside → Kept → Plan → Type 0
IsAuthenticFor o files plan = (keys : Keys) × (historical_of files plan ≡ Ok keys) × HasAuthenticTarget o.answers o.verdicts (task_for plan keys)
