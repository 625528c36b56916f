-- A run of one task, put together from its steps.
use Rattle.std.proofs.Common.{◌≡◌, ◌≢◌, ◌⊎◌, inl, inr, ℕ, nat_eq, false, Result, Ok, Err, refl, ap}
use Rattle.std.specs.Prelude.{IsOk, ◌↔◌}
use Rattle.std.proofs.lemmas.Bool.{false≢true}
use Rattle.child_ports.specs.Causes.{RoseWhen}
use Rattle.child_ports.specs.KeySet.{Keys}
use Rattle.auth_engine.specs.declared.task.Verdict.{Verdict}
use Rattle.auth_engine.specs.declared.engine_fail.EngineFail.{EngineFail}
use Rattle.auth_engine.specs.declared.engine_fail.EngineFail.TheVariants.{Name, Keyring, Cache, TooMany, Object, Cycle, Intro, Unrelated, Commit, GitFault, SigFault, KeepFault, Memory}
use Rattle.auth_engine.specs.Answers.{OnFinding, is_git_fault, is_sig_fault, is_keep_fault}
use Rattle.auth_engine.specs.Outcome.{IsOutcome}
use Rattle.auth_report.specs.Texts.{refusal_line}
use Rattle.auth_words.specs.declared.plan.Plan.{Plan}
use Rattle.run_answers.specs.Answers.{Answer, status_of, refused}
use Rattle.authenticate_run.specs.Answers.{ending_of, IsDue}
use Rattle.run_answers.specs.Faults.{Counts, IsChildFault, IsEndFault, ends}
use Rattle.channel_deps.specs.Outside.{Outside}
use Rattle.authenticate_run.specs.Outside.{task_for, cache_in}
use Rattle.run_answers.specs.Ended.{Sunk, Stored, Shows, IsItOrStopped, IsFinished, stored}
use Rattle.run_answers.specs.Shown.{IsPut, ShowsRefusal}
use Rattle.run_answers.proofs.FinishLemmas.{stop_shown}

module _ (o : Outside) (plan : Plan) (keys : Keys) (before now : Counts) where
  abbrev Outcome : Result Verdict EngineFail → Type 0
  Outcome result = IsOutcome o.answers o.verdicts (task_for plan keys) (cache_in o.kept plan) result

  abbrev pub May : Answer → Type 0
  May answer = IsItOrStopped (IsDue o plan keys) o.kept before now answer

  -- a refusal is due, or a stop that has its cause
  pub refusal_is : (fail : EngineFail) → OnFinding {T = Verdict} (Err fail) (Outcome (Err fail))
      → RoseWhen (is_git_fault {T = Verdict} (Err fail)) before.git now.git → RoseWhen (is_sig_fault {T = Verdict} (Err fail)) before.gpgv now.gpgv
      → RoseWhen (is_keep_fault {T = Verdict} (Err fail)) before.keeper now.keeper → May (refused o.kept fail)
  refusal_is (Name which what) outcome git gpgv keeper = inl (Err (Name which what), outcome, refl)
  refusal_is (Keyring why) outcome git gpgv keeper = inl (Err (Keyring why), outcome, refl)
  refusal_is (Cache why) outcome git gpgv keeper = inl (Err (Cache why), outcome, refl)
  refusal_is TooMany outcome git gpgv keeper = inl (Err TooMany, outcome, refl)
  refusal_is (Object id what) outcome git gpgv keeper = inl (Err (Object id what), outcome, refl)
  refusal_is (Cycle id) outcome git gpgv keeper = inl (Err (Cycle id), outcome, refl)
  refusal_is (Intro id cause) outcome git gpgv keeper = inl (Err (Intro id cause), outcome, refl)
  refusal_is (Unrelated target intro) outcome git gpgv keeper = inl (Err (Unrelated target intro), outcome, refl)
  refusal_is (Commit id cause) outcome git gpgv keeper = inl (Err (Commit id cause), outcome, refl)
  refusal_is GitFault outcome git gpgv keeper = inr (GitFault, git, refl)
  refusal_is SigFault outcome git gpgv keeper = inr (SigFault, gpgv, refl)
  refusal_is KeepFault outcome git gpgv keeper = inr (KeepFault, keeper, refl)
  refusal_is Memory outcome git gpgv keeper = inr (Memory, tt, refl)

  abbrev pub Shown : ℕ → Stored → Sunk → Sunk → Sunk → Sunk → Type 0
  Shown status store' out out' err err' = (answer : Answer) × May answer × Shows answer status (stored o.kept before.keeper) store' out out' err err'

  module _ (status : ℕ) (store' : Stored) (out err err' : Sunk) (keeps : store'.kept ≡ o.kept) where
    memory_shown : (status ≡ status_of Memory) × IsPut err.taken err'.taken (refusal_line Memory) err.failed err'.failed → Shown status store' out out err err'
    memory_shown put = (refused o.kept Memory, inr (Memory, tt, refl), stop_shown o.kept Memory status (stored o.kept before.keeper) store' out err err' put.0 (λ _. keeps) put.1)

    pub refusal_shown : (fail : EngineFail) → May (refused o.kept fail) → ShowsRefusal fail status err.taken err'.taken err.failed err'.failed → Shown status store' out out err err'
    refusal_shown fail is (inl own) = (refused o.kept fail, is, stop_shown o.kept fail status (stored o.kept before.keeper) store' out err err' own.0 (λ _. keeps) own.1)
    refusal_shown fail is (inr memory) = memory_shown memory

    pub out_of_memory : ShowsRefusal Memory status err.taken err'.taken err.failed err'.failed → Shown status store' out out err err'
    out_of_memory (inl put) = memory_shown put
    out_of_memory (inr put) = memory_shown put

  -- an accepted target was stored and printed, or stopped at that
  pub finished : (verdict : Verdict) (answer : Answer) → Outcome (Ok verdict) → IsFinished o.kept (ending_of plan verdict) before.keeper now.keeper answer → May answer
  finished verdict answer outcome (inl is) = inl (Ok verdict, outcome, is)
  finished verdict answer outcome (inr (inl is)) = inr (Memory, tt, is)
  finished verdict answer outcome (inr (inr is)) = inr (KeepFault, is.1, is.0)

-- an authentic target is refused for a fault or want of memory alone
pub refused_complete : (fail : EngineFail) (status : ℕ) (Has : Type 0) → OnFinding {T = Verdict} (Err fail) (IsOk {T = Verdict} {E = EngineFail} (Err fail) ↔ Has) → Has
    → (status ≡ status_of fail) ⊎ (status ≡ 6) → (status ≡ 0) ⊎ (status ≡ 4) ⊎ (status ≡ 5) ⊎ (status ≡ 6)
refused_complete fail status Has authentic has (inr e) = inr (inr (inr e))
refused_complete GitFault status Has authentic has (inl e) = inr (inl e)
refused_complete SigFault status Has authentic has (inl e) = inr (inl e)
refused_complete KeepFault status Has authentic has (inl e) = inr (inr (inl e))
refused_complete Memory status Has authentic has (inl e) = inr (inr (inr e))
refused_complete (Name which what) status Has authentic has (inl e) = absurd (false≢true (authentic.1 has))
refused_complete (Keyring why) status Has authentic has (inl e) = absurd (false≢true (authentic.1 has))
refused_complete (Cache why) status Has authentic has (inl e) = absurd (false≢true (authentic.1 has))
refused_complete TooMany status Has authentic has (inl e) = absurd (false≢true (authentic.1 has))
refused_complete (Object id what) status Has authentic has (inl e) = absurd (false≢true (authentic.1 has))
refused_complete (Cycle id) status Has authentic has (inl e) = absurd (false≢true (authentic.1 has))
refused_complete (Intro id cause) status Has authentic has (inl e) = absurd (false≢true (authentic.1 has))
refused_complete (Unrelated target intro) status Has authentic has (inl e) = absurd (false≢true (authentic.1 has))
refused_complete (Commit id cause) status Has authentic has (inl e) = absurd (false≢true (authentic.1 has))

-- ---- faults by their statuses

pub child_fault_of : (fail : EngineFail) (status git git' gpgv gpgv' : ℕ) → nat_eq status 4 ≡ nat_eq (status_of fail) 4
    → RoseWhen (is_git_fault {T = Verdict} (Err fail)) git git' → RoseWhen (is_sig_fault {T = Verdict} (Err fail)) gpgv gpgv' → IsChildFault status git git' gpgv gpgv'
child_fault_of GitFault status git git' gpgv gpgv' is rose rose' = rw is (inl rose)
child_fault_of SigFault status git git' gpgv gpgv' is rose rose' = rw is (inr rose')
child_fault_of KeepFault status git git' gpgv gpgv' is rose rose' = rw is (rose, rose')
child_fault_of Memory status git git' gpgv gpgv' is rose rose' = rw is (rose, rose')
child_fault_of (Name which what) status git git' gpgv gpgv' is rose rose' = rw is (rose, rose')
child_fault_of (Keyring why) status git git' gpgv gpgv' is rose rose' = rw is (rose, rose')
child_fault_of (Cache why) status git git' gpgv gpgv' is rose rose' = rw is (rose, rose')
child_fault_of TooMany status git git' gpgv gpgv' is rose rose' = rw is (rose, rose')
child_fault_of (Object id what) status git git' gpgv gpgv' is rose rose' = rw is (rose, rose')
child_fault_of (Cycle id) status git git' gpgv gpgv' is rose rose' = rw is (rose, rose')
child_fault_of (Intro id cause) status git git' gpgv gpgv' is rose rose' = rw is (rose, rose')
child_fault_of (Unrelated target intro) status git git' gpgv gpgv' is rose rose' = rw is (rose, rose')
child_fault_of (Commit id cause) status git git' gpgv gpgv' is rose rose' = rw is (rose, rose')

pub store_fault_of : (fail : EngineFail) (status keeper keeper' out err err' : ℕ) → nat_eq status 5 ≡ nat_eq (status_of fail) 5 → status ≢ 0
    → RoseWhen (is_keep_fault {T = Verdict} (Err fail)) keeper keeper' → IsEndFault ⊥ status (ends keeper out err) (ends keeper' out err')
store_fault_of KeepFault status keeper keeper' out err err' is nonzero rose = rw is (inl rose)
store_fault_of GitFault status keeper keeper' out err err' is nonzero rose = rw is (rose, refl, λ zero. absurd (nonzero zero))
store_fault_of SigFault status keeper keeper' out err err' is nonzero rose = rw is (rose, refl, λ zero. absurd (nonzero zero))
store_fault_of Memory status keeper keeper' out err err' is nonzero rose = rw is (rose, refl, λ zero. absurd (nonzero zero))
store_fault_of (Name which what) status keeper keeper' out err err' is nonzero rose = rw is (rose, refl, λ zero. absurd (nonzero zero))
store_fault_of (Keyring why) status keeper keeper' out err err' is nonzero rose = rw is (rose, refl, λ zero. absurd (nonzero zero))
store_fault_of (Cache why) status keeper keeper' out err err' is nonzero rose = rw is (rose, refl, λ zero. absurd (nonzero zero))
store_fault_of TooMany status keeper keeper' out err err' is nonzero rose = rw is (rose, refl, λ zero. absurd (nonzero zero))
store_fault_of (Object id what) status keeper keeper' out err err' is nonzero rose = rw is (rose, refl, λ zero. absurd (nonzero zero))
store_fault_of (Cycle id) status keeper keeper' out err err' is nonzero rose = rw is (rose, refl, λ zero. absurd (nonzero zero))
store_fault_of (Intro id cause) status keeper keeper' out err err' is nonzero rose = rw is (rose, refl, λ zero. absurd (nonzero zero))
store_fault_of (Unrelated target intro) status keeper keeper' out err err' is nonzero rose = rw is (rose, refl, λ zero. absurd (nonzero zero))
store_fault_of (Commit id cause) status keeper keeper' out err err' is nonzero rose = rw is (rose, refl, λ zero. absurd (nonzero zero))

-- an accepted target has no child's fault
pub no_child_fault : (status git git' gpgv gpgv' : ℕ) → (status ≡ 0) ⊎ (status ≡ 5) ⊎ (status ≡ 6) → git' ≡ git → gpgv' ≡ gpgv → IsChildFault status git git' gpgv gpgv'
no_child_fault status git git' gpgv gpgv' own same same' = rw (other status own) (same, same')
  where
    other : (status : ℕ) → (status ≡ 0) ⊎ (status ≡ 5) ⊎ (status ≡ 6) → nat_eq status 4 ≡ false
    other status (inl e) = ap (λ n. nat_eq n 4) e
    other status (inr (inl e)) = ap (λ n. nat_eq n 4) e
    other status (inr (inr e)) = ap (λ n. nat_eq n 4) e

-- the statuses of an accepted target
pub accepted_complete : (status : ℕ) → (status ≡ 0) ⊎ (status ≡ 5) ⊎ (status ≡ 6) → (status ≡ 0) ⊎ (status ≡ 4) ⊎ (status ≡ 5) ⊎ (status ≡ 6)
accepted_complete status (inl e) = inl e
accepted_complete status (inr (inl e)) = inr (inr (inl e))
accepted_complete status (inr (inr e)) = inr (inr (inr e))

-- of the statuses of an accepted target only want of memory is neither 0 nor 5
pub only_memory : (status : ℕ) → (status ≡ 0) ⊎ (status ≡ 5) ⊎ (status ≡ 6) → status ≢ 0 → status ≢ 5 → status ≡ 6
only_memory status (inl e) no_zero no_five = absurd (no_zero e)
only_memory status (inr (inl e)) no_zero no_five = absurd (no_five e)
only_memory status (inr (inr e)) no_zero no_five = e

-- want of memory may come with an authentic target
pub memory_complete : (status : ℕ) → (status ≡ status_of Memory) ⊎ (status ≡ 6) → (status ≡ 0) ⊎ (status ≡ 4) ⊎ (status ≡ 5) ⊎ (status ≡ 6)
memory_complete status (inl e) = inr (inr (inr e))
memory_complete status (inr e) = inr (inr (inr e))
