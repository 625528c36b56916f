-- A run of one set, put together from its steps.
use Rattle.std.proofs.Common.{◌≡◌, ◌≢◌, ◌⊎◌, inl, inr, ℕ, nat_eq, false, List, Result, Ok, Err, refl, sym, ap, subst, ◌∙◌, arith}
use Rattle.child_ports.specs.Causes.{Rose, RoseWhen, Stayed}
use Rattle.child_ports.specs.Keeper.{Kept}
use Rattle.auth_engine.specs.declared.engine_fail.EngineFail.{EngineFail}
use Rattle.auth_engine.specs.declared.engine_fail.EngineFail.TheVariants as engine
use Rattle.auth_report.specs.Texts.{refusal_line}
use Rattle.auth_words.specs.declared.plan.ChannelsPlan.{ChannelsPlan}
use Rattle.channel_file.specs.declared.channel.Channel.{Channel}
use Rattle.channel_deps.specs.declared.set.SetVerdict.{SetVerdict}
use Rattle.channel_deps.specs.declared.set_fail.SetFail.{SetFail}
use Rattle.channel_deps.specs.declared.set_fail.SetFail.TheVariants.{Channel as OfChannel, Metadata, Record, Downgrade, UnrelatedMove, DeployedMissing, TooManyChannels, GitFault, SigFault, KeepFault, Memory}
use Rattle.channel_deps.specs.Answers.{OnFinding, IsPlainFail, is_git_fault, is_sig_fault, is_keep_fault}
use Rattle.channel_deps.specs.Outcome.{IsSetOutcome}
use Rattle.channel_deps.specs.Outside.{Outside}
use Rattle.set_report.specs.SetTexts.{set_refusal_line}
use Rattle.run_answers.specs.Answers.{Answer, status_of, refused, accepted}
use Rattle.run_answers.specs.Ended.{Sunk, Stored, Shows, IsItOrStopped, IsFinished, stored}
use Rattle.run_answers.specs.Faults.{Counts, IsChildFault, IsEndFault, ends}
use Rattle.run_answers.specs.Shown.{IsPut}
use Rattle.run_answers.proofs.FinishLemmas.{stop_shown}
use Rattle.run_answers.proofs.ShownLemmas.{no_output}
use Rattle.channels_run.specs.Answers.{set_for, set_status, set_refused, set_ending, set_answer, IsSetDue}
use Rattle.channels_run.specs.Shown.{ShowsSetRefusal}

-- ---- statuses

-- a refusal of one channel has no fault's status
pub plain_engine : (name : List ℕ) (fail : EngineFail) → IsPlainFail (OfChannel name fail) → (status_of fail ≡ 1) ⊎ (status_of fail ≡ 3)
plain_engine name (engine.Name which what) plain = inr refl
plain_engine name (engine.Keyring why) plain = inr refl
plain_engine name (engine.Cache why) plain = inr refl
plain_engine name engine.TooMany plain = inr refl
plain_engine name (engine.Object id what) plain = inr refl
plain_engine name (engine.Cycle id) plain = inr refl
plain_engine name (engine.Intro id cause) plain = inl refl
plain_engine name (engine.Unrelated target intro) plain = inl refl
plain_engine name (engine.Commit id cause) plain = inl refl
plain_engine name engine.GitFault plain = absurd (plain tt)
plain_engine name engine.SigFault plain = absurd (plain tt)
plain_engine name engine.KeepFault plain = absurd (plain tt)
plain_engine name engine.Memory plain = absurd (plain tt)

-- no status of a refusal is 0 or 2
pub refused_status : (fail : SetFail) → IsPlainFail fail → (set_status fail ≢ 0) × (set_status fail ≢ 2)
refused_status (OfChannel name fail) plain = elim (plain_engine name fail plain) [
  | inl one ↦ (λ zero. absurd (omega (arith, one, zero)), λ two. absurd (omega (arith, one, two)))
  | inr three ↦ (λ zero. absurd (omega (arith, three, zero)), λ two. absurd (omega (arith, three, two)))
]
refused_status (Metadata name fail) plain = (λ e. absurd (omega (arith, e)), λ e. absurd (omega (arith, e)))
refused_status (Record name) plain = (λ e. absurd (omega (arith, e)), λ e. absurd (omega (arith, e)))
refused_status (Downgrade name old new) plain = (λ e. absurd (omega (arith, e)), λ e. absurd (omega (arith, e)))
refused_status (UnrelatedMove name old new) plain = (λ e. absurd (omega (arith, e)), λ e. absurd (omega (arith, e)))
refused_status (DeployedMissing name old) plain = (λ e. absurd (omega (arith, e)), λ e. absurd (omega (arith, e)))
refused_status TooManyChannels plain = (λ e. absurd (omega (arith, e)), λ e. absurd (omega (arith, e)))
refused_status GitFault plain = (λ e. absurd (omega (arith, e)), λ e. absurd (omega (arith, e)))
refused_status SigFault plain = (λ e. absurd (omega (arith, e)), λ e. absurd (omega (arith, e)))
refused_status KeepFault plain = (λ e. absurd (omega (arith, e)), λ e. absurd (omega (arith, e)))
refused_status Memory plain = (λ e. absurd (omega (arith, e)), λ e. absurd (omega (arith, e)))

-- nor is what is told of it
pub told_status : (fail : SetFail) (status : ℕ) → IsPlainFail fail → (status ≡ set_status fail) ⊎ (status ≡ 6) → (status ≢ 0) × (status ≢ 2)
told_status fail status plain (inr six) = (λ e. absurd (omega (arith, e, six)), λ e. absurd (omega (arith, e, six)))
told_status fail status plain (inl own) = let never = refused_status fail plain in (λ e. never.0 (omega (arith, own, e)), λ e. never.1 (omega (arith, own, e)))

-- a status that isn't a fault's
pub no_fault : (fail : SetFail) → IsPlainFail fail → fail ≢ GitFault → fail ≢ SigFault → fail ≢ KeepFault → (nat_eq (set_status fail) 4 ≡ false) × (nat_eq (set_status fail) 5 ≡ false)
no_fault (OfChannel name fail) plain git sig keeper = elim (plain_engine name fail plain) [
  | inl one ↦ (ap (λ (n : ℕ). nat_eq n 4) one, ap (λ (n : ℕ). nat_eq n 5) one)
  | inr three ↦ (ap (λ (n : ℕ). nat_eq n 4) three, ap (λ (n : ℕ). nat_eq n 5) three)
]
no_fault (Metadata name fail) plain git sig keeper = (refl, refl)
no_fault (Record name) plain git sig keeper = (refl, refl)
no_fault (Downgrade name old new) plain git sig keeper = (refl, refl)
no_fault (UnrelatedMove name old new) plain git sig keeper = (refl, refl)
no_fault (DeployedMissing name old) plain git sig keeper = (refl, refl)
no_fault TooManyChannels plain git sig keeper = (refl, refl)
no_fault GitFault plain git sig keeper = absurd (git refl)
no_fault SigFault plain git sig keeper = absurd (sig refl)
no_fault KeepFault plain git sig keeper = absurd (keeper refl)
no_fault Memory plain git sig keeper = (refl, refl)

-- a refusal that is this one was shown
pub shows_set : (fail other : SetFail) (status : ℕ) (old new : List ℕ) (before now : ℕ) → fail ≡ other → status ≡ set_status other
    → IsPut old new (set_refusal_line other) before now → ShowsSetRefusal fail status old new before now
shows_set fail other status old new before now is own put = subst (λ (f : SetFail). ShowsSetRefusal f status old new before now) (sym is) (inl (own, put))

-- ---- faults by their statuses

pub child_fault_of : (fail : SetFail) (status git git' gpgv gpgv' : ℕ) → IsPlainFail fail → nat_eq status 4 ≡ nat_eq (set_status fail) 4
    → RoseWhen (is_git_fault {T = SetVerdict} (Err fail)) git git' → RoseWhen (is_sig_fault {T = SetVerdict} (Err fail)) gpgv gpgv' → IsChildFault status git git' gpgv gpgv'
child_fault_of GitFault status git git' gpgv gpgv' plain is rose rose' = rw is (inl rose)
child_fault_of SigFault status git git' gpgv gpgv' plain is rose rose' = rw is (inr rose')
child_fault_of KeepFault status git git' gpgv gpgv' plain is rose rose' = rw is (rose, rose')
child_fault_of Memory status git git' gpgv gpgv' plain is rose rose' = rw is (rose, rose')
child_fault_of (OfChannel name fail) status git git' gpgv gpgv' plain is rose rose' = rw (is ∙ (no_fault (OfChannel name fail) plain (λ e. grind (arith, e)) (λ e. grind (arith, e)) (λ e. grind (arith, e))).0) (rose, rose')
child_fault_of (Metadata name fail) status git git' gpgv gpgv' plain is rose rose' = rw is (rose, rose')
child_fault_of (Record name) status git git' gpgv gpgv' plain is rose rose' = rw is (rose, rose')
child_fault_of (Downgrade name old new) status git git' gpgv gpgv' plain is rose rose' = rw is (rose, rose')
child_fault_of (UnrelatedMove name old new) status git git' gpgv gpgv' plain is rose rose' = rw is (rose, rose')
child_fault_of (DeployedMissing name old) status git git' gpgv gpgv' plain is rose rose' = rw is (rose, rose')
child_fault_of TooManyChannels status git git' gpgv gpgv' plain is rose rose' = rw is (rose, rose')

pub end_fault_of : (fail : SetFail) (status keeper keeper' out err err' : ℕ) → IsPlainFail fail → nat_eq status 5 ≡ nat_eq (set_status fail) 5 → (status ≢ 0)
    → RoseWhen (is_keep_fault {T = SetVerdict} (Err fail)) keeper keeper' → IsEndFault (Unit {0}) status (ends keeper out err) (ends keeper' out err')
end_fault_of KeepFault status keeper keeper' out err err' plain is nonzero rose = rw is (inl rose)
end_fault_of GitFault status keeper keeper' out err err' plain is nonzero rose = rw is (rose, refl, λ zero. absurd (nonzero zero))
end_fault_of SigFault status keeper keeper' out err err' plain is nonzero rose = rw is (rose, refl, λ zero. absurd (nonzero zero))
end_fault_of Memory status keeper keeper' out err err' plain is nonzero rose = rw is (rose, refl, λ zero. absurd (nonzero zero))
end_fault_of (OfChannel name fail) status keeper keeper' out err err' plain is nonzero rose = rw (is ∙ (no_fault (OfChannel name fail) plain (λ e. grind (arith, e)) (λ e. grind (arith, e)) (λ e. grind (arith, e))).1) (rose, refl, λ zero. absurd (nonzero zero))
end_fault_of (Metadata name fail) status keeper keeper' out err err' plain is nonzero rose = rw is (rose, refl, λ zero. absurd (nonzero zero))
end_fault_of (Record name) status keeper keeper' out err err' plain is nonzero rose = rw is (rose, refl, λ zero. absurd (nonzero zero))
end_fault_of (Downgrade name old new) status keeper keeper' out err err' plain is nonzero rose = rw is (rose, refl, λ zero. absurd (nonzero zero))
end_fault_of (UnrelatedMove name old new) status keeper keeper' out err err' plain is nonzero rose = rw is (rose, refl, λ zero. absurd (nonzero zero))
end_fault_of (DeployedMissing name old) status keeper keeper' out err err' plain is nonzero rose = rw is (rose, refl, λ zero. absurd (nonzero zero))
end_fault_of TooManyChannels status keeper keeper' out err err' plain is nonzero rose = rw is (rose, refl, λ zero. absurd (nonzero zero))

-- an accepted set has no child's fault
pub no_child_fault : (status git git' gpgv gpgv' : ℕ) → (status ≡ 0) ⊎ (status ≡ 5) ⊎ (status ≡ 6) → git' ≡ git → gpgv' ≡ gpgv → IsChildFault status git git' gpgv gpgv'
no_child_fault status git git' gpgv gpgv' own same same' = rw (other status own) (same, same')
  where
    other : (status : ℕ) → (status ≡ 0) ⊎ (status ≡ 5) ⊎ (status ≡ 6) → nat_eq status 4 ≡ false
    other status (inl e) = ap (λ n. nat_eq n 4) e
    other status (inr (inl e)) = ap (λ n. nat_eq n 4) e
    other status (inr (inr e)) = ap (λ n. nat_eq n 4) e

-- of the statuses of an accepted set only want of memory is neither 0 nor 5
pub only_memory : (status : ℕ) → (status ≡ 0) ⊎ (status ≡ 5) ⊎ (status ≡ 6) → status ≢ 0 → status ≢ 5 → status ≡ 6
only_memory status (inl e) no_zero no_five = absurd (no_zero e)
only_memory status (inr (inl e)) no_zero no_five = absurd (no_five e)
only_memory status (inr (inr e)) no_zero no_five = e

-- ---- answers that were shown

module _ (o : Outside) (plan : ChannelsPlan) (channels : List Channel) (before now : Counts) where
  abbrev Outcome : Result SetVerdict SetFail → Type 0
  Outcome result = IsSetOutcome o (set_for plan channels) result

  abbrev pub May : Answer → Type 0
  May answer = IsItOrStopped (IsSetDue o plan channels) o.kept before now answer

  -- a refusal is due, or a stop that has its cause
  pub refusal_is : (fail : SetFail) → OnFinding {T = SetVerdict} (Err fail) (Outcome (Err fail))
      → RoseWhen (is_git_fault {T = SetVerdict} (Err fail)) before.git now.git → RoseWhen (is_sig_fault {T = SetVerdict} (Err fail)) before.gpgv now.gpgv
      → RoseWhen (is_keep_fault {T = SetVerdict} (Err fail)) before.keeper now.keeper → May (set_refused o.kept fail)
  refusal_is (OfChannel name fail) outcome git gpgv keeper = inl (Err (OfChannel name fail), outcome, refl)
  refusal_is (Metadata name fail) outcome git gpgv keeper = inl (Err (Metadata name fail), outcome, refl)
  refusal_is (Record name) outcome git gpgv keeper = inl (Err (Record name), outcome, refl)
  refusal_is (Downgrade name old new) outcome git gpgv keeper = inl (Err (Downgrade name old new), outcome, refl)
  refusal_is (UnrelatedMove name old new) outcome git gpgv keeper = inl (Err (UnrelatedMove name old new), outcome, refl)
  refusal_is (DeployedMissing name old) outcome git gpgv keeper = inl (Err (DeployedMissing name old), outcome, refl)
  refusal_is TooManyChannels outcome git gpgv keeper = inl (Err TooManyChannels, outcome, refl)
  refusal_is GitFault outcome git gpgv keeper = inr (engine.GitFault, git, refl)
  refusal_is SigFault outcome git gpgv keeper = inr (engine.SigFault, gpgv, refl)
  refusal_is KeepFault outcome git gpgv keeper = inr (engine.KeepFault, keeper, refl)
  refusal_is Memory outcome git gpgv keeper = inr (engine.Memory, tt, refl)

  abbrev pub Shown : ℕ → Stored → Sunk → Sunk → Sunk → Sunk → Type 0
  Shown status store' out out' err err' = (answer : Answer) × May answer × Shows answer status (stored o.kept before.keeper) store' out out' err err'

  module _ (status : ℕ) (store' : Stored) (out err err' : Sunk) (keeps : store'.kept ≡ o.kept) where
    memory_shown : (status ≡ 6) × IsPut err.taken err'.taken (refusal_line engine.Memory) err.failed err'.failed → Shown status store' out out err err'
    memory_shown put = (refused o.kept engine.Memory, inr (engine.Memory, tt, refl), stop_shown o.kept engine.Memory status (stored o.kept before.keeper) store' out err err' put.0 (λ _. keeps) put.1)

    pub refusal_shown : (fail : SetFail) → May (set_refused o.kept fail) → ShowsSetRefusal fail status err.taken err'.taken err.failed err'.failed → Shown status store' out out err err'
    refusal_shown fail is (inl own) = (
      set_refused o.kept fail,
      is,
      record {
        status_is = inl own.0;
        output = no_output out err err';
        line = own.1;
        records = λ _. keeps;
      },
    )
    refusal_shown fail is (inr memory) = memory_shown memory

    pub out_of_memory : ShowsSetRefusal Memory status err.taken err'.taken err.failed err'.failed → Shown status store' out out err err'
    out_of_memory (inl put) = memory_shown put
    out_of_memory (inr put) = memory_shown put

  -- an accepted set was stored and printed, or stopped at that
  pub finished : (verdict : SetVerdict) (answer : Answer) → Outcome (Ok verdict) → IsFinished o.kept (set_ending verdict) before.keeper now.keeper answer → May answer
  finished verdict answer outcome (inl is) = inl (Ok verdict, outcome, is)
  finished verdict answer outcome (inr (inl is)) = inr (engine.Memory, tt, is)
  finished verdict answer outcome (inr (inr is)) = inr (engine.KeepFault, is.1, is.0)
