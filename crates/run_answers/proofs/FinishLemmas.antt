-- Answers that were shown.
use Rattle.std.proofs.Common.{◌≡◌, ◌⊎◌, inl, inr, ℕ, nat_eq, Bool, true, false, refl}
use Rattle.std.specs.Prelude.{MatchBool}
use Rattle.child_ports.specs.Causes.{Rose, Stayed}
use Rattle.child_ports.specs.Keeper.{Kept, with_pairs}
use Rattle.auth_engine.specs.declared.engine_fail.EngineFail.{EngineFail}
use Rattle.auth_engine.specs.declared.engine_fail.EngineFail.TheVariants.{KeepFault, Memory}
use Rattle.auth_report.specs.Texts.{refusal_line}
use Rattle.run_answers.specs.declared.finishing.Ending.{Ending}
use Rattle.run_answers.specs.Answers.{Answer, status_of, refused, accepted}
use Rattle.run_answers.specs.Ended.{Sunk, Stored, IsOutput, Shows, IsFinished, stored}
use Rattle.run_answers.specs.Faults.{Ends, IsEndFault}
use Rattle.run_answers.specs.Shown.{IsPut, IsStatus}
use Rattle.run_answers.proofs.ShownLemmas.{no_output, rose_stayed}

-- a stop was shown as its line
pub stop_shown : (kept : Kept) (stop : EngineFail) (status : ℕ) (store store' : Stored) (out err err' : Sunk) → status ≡ status_of stop
    → (Stayed store.failed store'.failed → store'.kept ≡ kept) → IsPut err.taken err'.taken (refusal_line stop) err.failed err'.failed
    → Shows (refused kept stop) status store store' out out err err'
stop_shown kept stop status store store' out err err' own keeps put = record {
  status_is = inl own;
  output = no_output out err err';
  line = put;
  records = keeps;
}

module _ (ending : Ending) (kept : Kept) (before : ℕ) (out err : Sunk) where
  abbrev pub Finishes : ℕ → Stored → Sunk → Sunk → Type 0
  Finishes status store' out' err' = (answer : Answer) × IsFinished kept ending before store'.failed answer
      × Shows answer status (stored kept before) store' out out' err err'

  pub no_room : (status : ℕ) (store' : Stored) (err' : Sunk) → status ≡ 6 → store'.kept ≡ kept → IsPut err.taken err'.taken (refusal_line Memory) err.failed err'.failed → Finishes status store' out err'
  no_room status store' err' own keeps put = (refused kept Memory, inr (inl refl), stop_shown kept Memory status (stored kept before) store' out err err' own (λ _. keeps) put)

  pub no_store : (status : ℕ) (store' : Stored) (err' : Sunk) → status ≡ 5 → Rose before store'.failed → IsPut err.taken err'.taken (refusal_line KeepFault) err.failed err'.failed → Finishes status store' out err'
  no_store status store' err' own rose put = (refused kept KeepFault, inr (inr (refl, rose)), stop_shown kept KeepFault status (stored kept before) store' out err err' own (λ stayed. absurd (rose_stayed before store'.failed rose stayed)) put)

  pub is_stored : (status : ℕ) (store' : Stored) (out' err' : Sunk) → IsStatus (Rose out.failed out'.failed ⊎ Rose err.failed err'.failed) 0 status → store'.kept ≡ with_pairs kept ending.store
      → IsOutput ending.output out out' err err' → IsPut err.taken err'.taken ending.warnings err.failed err'.failed → Finishes status store' out' err'
  is_stored status store' out' err' own keeps put line = (
    accepted kept ending,
    inl refl,
    record {
      status_is = own;
      output = put;
      line = line;
      records = λ _. keeps;
    },
  )

-- a fault of some warnings is one of others, where these are what those come from
pub other_fault : (Warns Others : Type 0) (status : ℕ) (before now : Ends) → (Warns → Others) → IsEndFault Warns status before now → IsEndFault Others status before now
other_fault Warns Others status before now more = by_status (nat_eq status 5)
  where
    by_status : (b : Bool)
        → MatchBool b (Rose before.keeper now.keeper ⊎ Rose before.out now.out ⊎ (Warns × Rose before.err now.err)) ((now.keeper ≡ before.keeper) × (now.out ≡ before.out) × (status ≡ 0 → now.err ≡ before.err))
        → MatchBool b (Rose before.keeper now.keeper ⊎ Rose before.out now.out ⊎ (Others × Rose before.err now.err)) ((now.keeper ≡ before.keeper) × (now.out ≡ before.out) × (status ≡ 0 → now.err ≡ before.err))
    by_status true (inl rose) = inl rose
    by_status true (inr (inl rose)) = inr (inl rose)
    by_status true (inr (inr warned)) = inr (inr (more warned.0, warned.1))
    by_status false stays = stays
