-- Refusals where no call failed.
use Rattle.std.proofs.Common.{◌≡◌, ◌≢◌, ℕ, refl, sym, subst}
use Rattle.std.specs.Prelude.{Result, Err}
use Rattle.keyring_branch.specs.KeyringFaults.{KeyringFailsByCount}
use Rattle.keyring_branch.specs.declared.keyring_fail.KeyringFail.{KeyringFail}
use Rattle.keyring_branch.specs.declared.keyring_fail.KeyringFail.TheVariants as fail

same_count : (A : Type 0) (fault : KeyringFail) (before now : ℕ) → now ≡ before → fault ≢ fail.GitFault → KeyringFailsByCount {A = A} before now (Err fault)
same_count A fail.GitFault before now is other = absurd (other refl)
same_count A fail.NoBranch before now is other = is
same_count A (fail.Frame f) before now is other = is
same_count A (fail.Kind k) before now is other = is
same_count A (fail.Tree f) before now is other = is
same_count A (fail.File name f) before now is other = is
same_count A fail.TooLarge before now is other = is
same_count A fail.Memory before now is other = is

pub no_call_failed : {A : Type 0} (result : Result A KeyringFail) (fault : KeyringFail) (before now : ℕ) → result ≡ Err fault → now ≡ before → fault ≢ fail.GitFault → KeyringFailsByCount before now result
no_call_failed {A = A} result fault before now is same other = subst (λ (r : Result A KeyringFail). KeyringFailsByCount before now r) (sym is) (same_count A fault before now same other)
