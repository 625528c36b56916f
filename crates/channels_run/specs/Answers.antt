-- What is due to a list of channels: status, texts and records.
use Rattle.std.specs.Prelude.{◌≡◌, ◌≢◌, ◌⊎◌, ℕ, List, [], Option, Some, Result, Ok, Err, MatchResult, IfOk}
use Rattle.child_ports.specs.Keeper.{Kept, with_pairs}
use Rattle.auth_report.specs.declared.files.FileFail.TheVariants as file
use Rattle.auth_report.specs.FileTexts.{file_line}
use Rattle.auth_words.specs.declared.plan.ChannelsPlan.{ChannelsPlan}
use Rattle.channel_file.specs.declared.channel.Channel.{Channel}
use Rattle.channel_deps.specs.declared.set.SetTask.{SetTask}
use Rattle.channel_deps.specs.declared.set.SetVerdict.{SetVerdict}
use Rattle.channel_deps.specs.declared.set_fail.SetFail.{SetFail}
use Rattle.channel_deps.specs.declared.set_fail.SetFail.TheVariants.{Channel as OfChannel, Metadata, Record, Downgrade, UnrelatedMove, DeployedMissing, TooManyChannels, GitFault, SigFault, KeepFault, Memory}
use Rattle.channel_deps.specs.Answers.{OnFinding}
use Rattle.channel_deps.specs.Asked.{AsksSet}
use Rattle.channel_deps.specs.Outcome.{IsSetOutcome, AreSoundOrNone}
use Rattle.channel_deps.specs.Outside.{Outside}
use Rattle.channel_deps.specs.Over.{IsSetVerdictOver}
use Rattle.set_report.specs.MemberLines.{set_lines_text}
use Rattle.set_report.specs.SetTexts.{set_refusal_line}
use Rattle.set_report.specs.Warnings.{set_warnings_text}
use Rattle.run_answers.specs.declared.finishing.Ending.{Ending}
use Rattle.run_answers.specs.Answers.{Answer, status_of, accepted}
use Rattle.run_answers.specs.Ended.{StoresOnce}
use Rattle.channels_run.specs.declared.listing.ListFail.{ListFail}
use Rattle.channels_run.specs.Listing.{list_of, trouble_line}

-- the set of a plan, with these channels
abbrev pub set_for : ChannelsPlan → List Channel → SetTask
set_for plan channels = record { clones = plan.clones; channels = channels; allow_downgrades = plan.allow_downgrades; check = plan.check }

-- 1: a target isn't authentic, or the move to it isn't allowed. 3: the check stops before. The others are as for one target.
abbrev pub set_status : SetFail → ℕ
set_status (OfChannel name fail) = status_of fail
set_status (Metadata name fail) = 3
set_status (Record name) = 3
set_status (Downgrade name old new) = 1
set_status (UnrelatedMove name old new) = 1
set_status (DeployedMissing name old) = 1
set_status TooManyChannels = 3
set_status GitFault = 4
set_status SigFault = 4
set_status KeepFault = 5
set_status Memory = 6

abbrev pub set_refused : Kept → SetFail → Answer
set_refused kept fail = record { status = set_status fail; out = []; err = set_refusal_line fail; kept = kept }

-- what an accepted set leaves
abbrev pub set_ending : SetVerdict → Ending
set_ending verdict = record { store = verdict.store; warnings = set_warnings_text verdict; output = set_lines_text verdict }

abbrev pub set_answer : Kept → Result SetVerdict SetFail → Answer
set_answer kept (Ok verdict) = accepted kept (set_ending verdict)
set_answer kept (Err fail) = set_refused kept fail

-- the file of the plan gives no channels
abbrev pub list_refused : Kept → ChannelsPlan → ListFail → Answer
list_refused kept plan fail = record { status = 3; out = []; err = trouble_line plan.file fail; kept = kept }

-- it can't be read
abbrev pub list_unread : Kept → ChannelsPlan → Answer
list_unread kept plan = record { status = 5; out = []; err = file_line plan.file file.Failed; kept = kept }

-- the answer to what the set of a plan comes to, with these channels
abbrev pub IsSetDue : Outside → ChannelsPlan → List Channel → Answer → Type 0
IsSetDue o plan channels answer = (result : Result SetVerdict SetFail) × IsSetOutcome o (set_for plan channels) result × (answer ≡ set_answer o.kept result)

-- the answer to a plan: its set is checked once its file has given channels
abbrev pub IsListAnswer : Outside → Kept → ChannelsPlan → Answer → Type 0
IsListAnswer o files plan answer = MatchResult (list_of files plan)
    (λ channels. IsSetDue o plan channels answer)
    (λ fail. answer ≡ list_refused o.kept plan fail)

-- a fact of the set of a plan, once its file has given channels
abbrev pub OfSet : Kept → ChannelsPlan → (SetTask → Type 0) → Type 0
OfSet files plan fact = IfOk (list_of files plan) (λ channels. fact (set_for plan channels))

-- a set is accepted
abbrev pub HasSetVerdict : Outside → SetTask → Type 0
HasSetVerdict o s = (verdict : SetVerdict) × IsSetOutcome o s (Ok verdict)

-- the set of a plan is accepted
abbrev pub IsAcceptedSet : Outside → Kept → ChannelsPlan → Type 0
IsAcceptedSet o files plan = (channels : List Channel) × (list_of files plan ≡ Ok channels)
    × HasSetVerdict o (set_for plan channels)

-- The records are those of before or, only where the set is accepted, those with all that its verdict has to be kept.
abbrev pub KeepsOrStoresAll : Outside → Kept → SetTask → Type 0
KeepsOrStoresAll o after s = (after ≡ o.kept) ⊎ ((verdict : SetVerdict) × IsSetOutcome o s (Ok verdict) × (after ≡ with_pairs o.kept verdict.store))

-- ---- whatever is kept

-- Whatever is kept, sound or not, the records are those of before, or those with all that the verdicts over it have to be kept: for
-- each channel its cache, with the target before the entries that were read, and its deployed commit.
abbrev pub KeepsOrPutsAll : Outside → SetTask → Kept → Type 0
KeepsOrPutsAll o s after = (after ≡ o.kept) ⊎ ((verdict : SetVerdict) × IsSetVerdictOver o s verdict × (after ≡ with_pairs o.kept verdict.store))

-- the same by what the file of a plan gives: nothing is put where it gives no channels
abbrev pub SetPutsFor : Outside → Kept → ChannelsPlan → Kept → Type 0
SetPutsFor o files plan after = MatchResult (list_of files plan) (λ channels. KeepsOrPutsAll o (set_for plan channels) after) (λ _. after ≡ o.kept)

-- The store wasn't called, and the status isn't 0; or there is a verdict over what is kept, and it was called once where that has
-- something to be kept, and else not.
abbrev pub StoresSetVerdict : Outside → SetTask → ℕ → ℕ → ℕ → Type 0
StoresSetVerdict o s status before now = ((now ≡ before) × (status ≢ 0))
    ⊎ ((verdict : SetVerdict) × IsSetVerdictOver o s verdict × StoresOnce verdict.store before now)

-- the same by what the file of a plan gives: the store isn't called where it gives no channels
abbrev pub SetStoresFor : Outside → Kept → ChannelsPlan → ℕ → ℕ → ℕ → Type 0
SetStoresFor o files plan status before now = MatchResult (list_of files plan) (λ channels. StoresSetVerdict o (set_for plan channels) status before now) (λ _. now ≡ before)

-- ---- questions

-- this status can come with what was found
abbrev pub SetTells : Result SetVerdict SetFail → ℕ → Type 0
SetTells (Ok verdict) status = (status ≡ 0) ⊎ (status ≡ 5) ⊎ (status ≡ 6)
SetTells (Err fail) status = (status ≡ set_status fail) ⊎ (status ≡ 6)

-- what was found is the outcome, where what is kept is sound or no cache text, unless it is a fault or want of memory
abbrev pub IsSetFound : Outside → SetTask → Result SetVerdict SetFail → Type 0
IsSetFound o s found = AreSoundOrNone o s → OnFinding found (IsSetOutcome o s found)

-- gpgv was asked as often as it takes what was found, which the status tells of
abbrev pub AsksSetAsTold : Outside → SetTask → ℕ → ℕ → ℕ → Type 0
AsksSetAsTold o s status before now = (found : Result SetVerdict SetFail) × IsSetFound o s found × AsksSet o s found before now × SetTells found status

-- The questions of a run, by what the file of its plan gives: none where it gives no channels, can't be read or memory is wanting.
abbrev pub SetAsksFor : Outside → Kept → ChannelsPlan → ℕ → ℕ → ℕ → Type 0
SetAsksFor o files plan status before now = MatchResult (list_of files plan)
    (λ channels. AsksSetAsTold o (set_for plan channels) status before now ⊎ ((now ≡ before) × ((status ≡ 5) ⊎ (status ≡ 6))))
    (λ _. now ≡ before)
