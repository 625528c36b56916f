-- What is due to a plan: status, texts and records.
use Rattle.std.specs.Prelude.{◌≡◌, ℕ, if◌then◌else◌, List, [], ◌∷◌, Option, Some, None, option_map, Result, Ok, Err, MatchResult}
use Rattle.child_ports.specs.declared.keeper.Pair.{Pair}
use Rattle.child_ports.specs.Keeper.{Kept, with_pairs}
use Rattle.child_ports.specs.KeySet.{Keys}
use Rattle.auth_engine.specs.declared.task.Verdict.{Verdict}
use Rattle.auth_engine.specs.declared.engine_fail.EngineFail.{EngineFail}
use Rattle.auth_engine.specs.Outcome.{IsOutcome}
use Rattle.auth_report.specs.declared.files.FileFail.{FileFail}
use Rattle.auth_report.specs.declared.files.FileFail.TheVariants as file
use Rattle.auth_report.specs.FileTexts.{file_line}
use Rattle.auth_report.specs.Statistics.{statistics_text}
use Rattle.auth_words.specs.declared.plan.Plan.{Plan}
use Rattle.run_answers.specs.declared.finishing.Ending.{Ending}
use Rattle.run_answers.specs.Answers.{Answer, refused, accepted}
use Rattle.channel_deps.specs.Outside.{Outside}
use Rattle.authenticate_run.specs.Outside.{task_for, historical_of, cache_in}

-- what a verdict has to be kept, as pairs
abbrev pub pairs_of : Option Pair → List Pair
pairs_of None = []
pairs_of (Some pair) = pair ∷ []

-- what a verdict has to be kept is put among the records
abbrev pub with_store : Kept → Option Pair → Kept
with_store kept store = with_pairs kept (pairs_of store)

-- what is printed of a verdict
abbrev pub output_of : Plan → Verdict → List ℕ
output_of plan verdict = if plan.stats then statistics_text verdict else []

-- what an accepted target leaves
abbrev pub ending_of : Plan → Verdict → Ending
ending_of plan verdict = record { store = pairs_of verdict.store; warnings = []; output = output_of plan verdict }

abbrev pub answer_for : Kept → Plan → Result Verdict EngineFail → Answer
answer_for kept plan (Ok verdict) = accepted kept (ending_of plan verdict)
answer_for kept plan (Err fail) = refused kept fail

-- the line for a file of the plan that gives no keys
abbrev pub path_line : Option (List ℕ) → FileFail → List ℕ
path_line (Some path) fail = file_line path fail
path_line None fail = []

-- a file of the words gives no keys
abbrev pub file_refused : Kept → Plan → FileFail → Answer
file_refused kept plan fail = record { status = 3; out = []; err = path_line plan.historical fail; kept = kept }

-- a file of the words can't be read
abbrev pub file_unread : Kept → Plan → Answer
file_unread kept plan = record { status = 5; out = []; err = path_line plan.historical file.Failed; kept = kept }

-- the answer where the file of a plan can't be read, if it names one
abbrev pub unread_of : Kept → Plan → Option Answer
unread_of kept plan = option_map (λ path. file_unread kept plan) plan.historical

-- the answer to what the task of a plan comes to, with these historical keys
abbrev pub IsDue : Outside → Plan → Keys → Answer → Type 0
IsDue o plan keys answer = (result : Result Verdict EngineFail)
    × IsOutcome o.answers o.verdicts (task_for plan keys) (cache_in o.kept plan) result × (answer ≡ answer_for o.kept plan result)

-- the answer to a plan: its task is checked once its file has given keys
abbrev pub IsAnswerBy : Outside → Kept → Plan → Answer → Type 0
IsAnswerBy o files plan answer = MatchResult (historical_of files plan)
    (λ keys. IsDue o plan keys answer)
    (λ fail. answer ≡ file_refused o.kept plan fail)
