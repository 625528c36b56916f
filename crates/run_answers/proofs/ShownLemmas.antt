-- What was put into sinks, and the statuses of refusals.
use Rattle.std.proofs.Common.{◌≡◌, ◌≢◌, ◌⊎◌, inl, inr, ℕ, false, nat_eq, List, [], refl, sym, subst, arith}
use Rattle.std.proofs.lemmas.List.{append-nil}
use Rattle.child_ports.specs.Causes.{Rose, Stayed}
use Rattle.auth_engine.specs.declared.engine_fail.EngineFail.{EngineFail}
use Rattle.auth_engine.specs.declared.engine_fail.EngineFail.TheVariants.{Name, Keyring, Cache, TooMany, Object, Cycle, Intro, Unrelated, Commit, GitFault, SigFault, KeepFault, Memory}
use Rattle.auth_report.specs.Texts.{refusal_line}
use Rattle.run_answers.specs.Answers.{status_of}
use Rattle.run_answers.specs.Ended.{Sunk, IsOutput}
use Rattle.run_answers.specs.Shown.{IsPut, IsStatus, ShowsRefusal}

-- a sink that got nothing
pub untouched : (old : List ℕ) (count : ℕ) → IsPut old old [] count count
untouched old count = record {
  front = record { front = []; rest = []; parts = refl; taken = sym (append-nil old) };
  whole = λ _. sym (append-nil old);
}

-- a count that rose hasn't stayed
pub rose_stayed : (before now : ℕ) → Rose before now → Stayed before now → ⊥
rose_stayed before now rose stayed = absurd (omega (arith, rose, stayed.0, stayed.1))

-- nothing was put on standard output, whatever became of a line on standard error
pub no_output : (out err err' : Sunk) → IsOutput [] out out err err'
no_output out err err' = record {
  front = (untouched out.taken out.failed).front;
  whole = λ _ _. sym (append-nil out.taken);
  nothing = λ _. refl;
}

-- no call on standard error failed before
pub own_output : (text : List ℕ) (out out' err err' : Sunk) → err'.failed ≡ err.failed → IsPut out.taken out'.taken text out.failed out'.failed → IsOutput text out out' err err'
own_output text out out' err err' same put = record {
  front = put.front;
  whole = λ stayed _. put.whole stayed;
  nothing = λ failed. absurd (failed same);
}

-- what was lost has one more reason
pub lost_also : (Lost Also : Type 0) (due status : ℕ) → (Lost → Also) → IsStatus Lost due status → IsStatus Also due status
lost_also Lost Also due status more (inl own) = inl own
lost_also Lost Also due status more (inr five) = inr (five.0, five.1, more five.2)

pub shows : (fail other : EngineFail) (status : ℕ) (old new : List ℕ) (before now : ℕ) → fail ≡ other → status ≡ status_of other
    → IsPut old new (refusal_line other) before now → ShowsRefusal fail status old new before now
shows fail other status old new before now is own put = subst (λ (f : EngineFail). ShowsRefusal f status old new before now) (sym is) (inl (own, put))

-- the status of a refusal that is no fault
pub no_fault : (fail : EngineFail) → fail ≢ GitFault → fail ≢ SigFault → fail ≢ KeepFault → (nat_eq (status_of fail) 4 ≡ false) × (nat_eq (status_of fail) 5 ≡ false)
no_fault (Name which what) git gpgv keeper = (refl, refl)
no_fault (Keyring why) git gpgv keeper = (refl, refl)
no_fault (Cache why) git gpgv keeper = (refl, refl)
no_fault TooMany git gpgv keeper = (refl, refl)
no_fault (Object id what) git gpgv keeper = (refl, refl)
no_fault (Cycle id) git gpgv keeper = (refl, refl)
no_fault (Intro id cause) git gpgv keeper = (refl, refl)
no_fault (Unrelated target intro) git gpgv keeper = (refl, refl)
no_fault (Commit id cause) git gpgv keeper = (refl, refl)
no_fault GitFault git gpgv keeper = absurd (git refl)
no_fault SigFault git gpgv keeper = absurd (gpgv refl)
no_fault KeepFault git gpgv keeper = absurd (keeper refl)
no_fault Memory git gpgv keeper = (refl, refl)

-- a file that gives nothing isn't told with status 0
pub told_no_zero : (status : ℕ) → (status ≡ 3) ⊎ (status ≡ 5) ⊎ (status ≡ 6) → status ≢ 0
told_no_zero status (inl three) = λ zero. absurd (omega (arith, zero, three))
told_no_zero status (inr (inl five)) = λ zero. absurd (omega (arith, zero, five))
told_no_zero status (inr (inr six)) = λ zero. absurd (omega (arith, zero, six))

pub no_words : (fail : EngineFail) (status : ℕ) → (status ≡ status_of fail) ⊎ (status ≡ 6) → (status ≢ 2) × (status ≢ 0)
no_words fail status (inr e) = (λ x. absurd (omega (arith, x, e)), λ x. absurd (omega (arith, x, e)))
no_words (Name which what) status (inl e) = (λ x. absurd (omega (arith, x, e)), λ x. absurd (omega (arith, x, e)))
no_words (Keyring why) status (inl e) = (λ x. absurd (omega (arith, x, e)), λ x. absurd (omega (arith, x, e)))
no_words (Cache why) status (inl e) = (λ x. absurd (omega (arith, x, e)), λ x. absurd (omega (arith, x, e)))
no_words TooMany status (inl e) = (λ x. absurd (omega (arith, x, e)), λ x. absurd (omega (arith, x, e)))
no_words (Object id what) status (inl e) = (λ x. absurd (omega (arith, x, e)), λ x. absurd (omega (arith, x, e)))
no_words (Cycle id) status (inl e) = (λ x. absurd (omega (arith, x, e)), λ x. absurd (omega (arith, x, e)))
no_words (Intro id cause) status (inl e) = (λ x. absurd (omega (arith, x, e)), λ x. absurd (omega (arith, x, e)))
no_words (Unrelated target intro) status (inl e) = (λ x. absurd (omega (arith, x, e)), λ x. absurd (omega (arith, x, e)))
no_words (Commit id cause) status (inl e) = (λ x. absurd (omega (arith, x, e)), λ x. absurd (omega (arith, x, e)))
no_words GitFault status (inl e) = (λ x. absurd (omega (arith, x, e)), λ x. absurd (omega (arith, x, e)))
no_words SigFault status (inl e) = (λ x. absurd (omega (arith, x, e)), λ x. absurd (omega (arith, x, e)))
no_words KeepFault status (inl e) = (λ x. absurd (omega (arith, x, e)), λ x. absurd (omega (arith, x, e)))
no_words Memory status (inl e) = (λ x. absurd (omega (arith, x, e)), λ x. absurd (omega (arith, x, e)))
