-- Failed calls and the statuses that tell of them.
use Rattle.std.specs.Prelude.{◌≡◌, ◌⊎◌, ℕ, nat_eq, MatchBool}
use Rattle.child_ports.specs.Causes.{Rose}
use Rattle.auth_engine.specs.declared.engine_fail.EngineFail.{EngineFail}
use Rattle.auth_engine.specs.declared.engine_fail.EngineFail.TheVariants.{GitFault, SigFault, KeepFault, Memory}

-- how many calls of git, gpgv and the keeper have failed
pub record Counts : Type 0 where
  pub git : ℕ
  pub gpgv : ℕ
  pub keeper : ℕ

abbrev pub counts : ℕ → ℕ → ℕ → Counts
counts git gpgv keeper = record { git = git; gpgv = gpgv; keeper = keeper }

-- A fault comes only where a call on its port failed; want of memory may come at any time.
abbrev pub HasCause : EngineFail → Counts → Counts → Type 0
HasCause GitFault before now = Rose before.git now.git
HasCause SigFault before now = Rose before.gpgv now.gpgv
HasCause KeepFault before now = Rose before.keeper now.keeper
HasCause Memory before now = Unit {0}
HasCause _ before now = ⊥

-- Status 4 comes exactly where a call on one of the children's ports failed.
abbrev pub IsChildFault : ℕ → ℕ → ℕ → ℕ → ℕ → Type 0
IsChildFault status git_before git_now gpgv_before gpgv_now =
    MatchBool (nat_eq status 4) (Rose git_before git_now ⊎ Rose gpgv_before gpgv_now) ((git_now ≡ git_before) × (gpgv_now ≡ gpgv_before))

-- how many calls of the keeper, standard output and standard error have failed
pub record Ends : Type 0 where
  pub keeper : ℕ
  pub out : ℕ
  pub err : ℕ

abbrev pub ends : ℕ → ℕ → ℕ → Ends
ends keeper out err = record { keeper = keeper; out = out; err = err }

-- Status 5 comes exactly where the keeper, standard output or, where there are warnings, standard error failed. Beside status 0
-- nothing failed, whatever there is to warn of.
abbrev pub IsEndFault : Type 0 → ℕ → Ends → Ends → Type 0
IsEndFault Warns status before now = MatchBool (nat_eq status 5)
    (Rose before.keeper now.keeper ⊎ Rose before.out now.out ⊎ (Warns × Rose before.err now.err))
    ((now.keeper ≡ before.keeper) × (now.out ≡ before.out) × (status ≡ 0 → now.err ≡ before.err))

-- The same, with the room of the files that words name.
abbrev pub IsOtherFault : Type 0 → ℕ → Ends → Ends → ℕ → ℕ → Type 0
IsOtherFault Warns status before now room_before room_now = MatchBool (nat_eq status 5)
    (Rose before.keeper now.keeper ⊎ Rose room_before room_now ⊎ Rose before.out now.out ⊎ (Warns × Rose before.err now.err))
    ((now.keeper ≡ before.keeper) × (room_now ≡ room_before) × (now.out ≡ before.out) × (status ≡ 0 → now.err ≡ before.err))
