-- Answers that may be a fault of a port or want of memory in place of what is so.
use Rattle.std.specs.Prelude.{◌≡◌, Bool, true, false, Result, Err}
use Rattle.auth_engine.specs.declared.engine_fail.EngineFail.{EngineFail}
use Rattle.auth_engine.specs.declared.engine_fail.EngineFail.TheVariants.{GitFault, SigFault, KeepFault, Memory}

abbrev pub is_git_fault : {T : Type 0} → Result T EngineFail → Bool
is_git_fault (Err GitFault) = true
is_git_fault _ = false

abbrev pub is_sig_fault : {T : Type 0} → Result T EngineFail → Bool
is_sig_fault (Err SigFault) = true
is_sig_fault _ = false

abbrev pub is_keep_fault : {T : Type 0} → Result T EngineFail → Bool
is_keep_fault (Err KeepFault) = true
is_keep_fault _ = false

-- the answer is this value, unless it is a port's fault or want of memory
abbrev pub Gives : {T : Type 0} → Result T EngineFail → Result T EngineFail → Type 0
Gives (Err GitFault) value = Unit {0}
Gives (Err SigFault) value = Unit {0}
Gives (Err KeepFault) value = Unit {0}
Gives (Err Memory) value = Unit {0}
Gives answer value = answer ≡ value

-- something that is so of every answer but a fault and want of memory
abbrev pub OnFinding : {T : Type 0} → Result T EngineFail → Type 0 → Type 0
OnFinding (Err GitFault) fact = Unit {0}
OnFinding (Err SigFault) fact = Unit {0}
OnFinding (Err KeepFault) fact = Unit {0}
OnFinding (Err Memory) fact = Unit {0}
OnFinding _ fact = fact

-- a fault or want of memory
abbrev pub IsStop : EngineFail → Type 0
IsStop GitFault = Unit {0}
IsStop SigFault = Unit {0}
IsStop KeepFault = Unit {0}
IsStop Memory = Unit {0}
IsStop _ = ⊥
