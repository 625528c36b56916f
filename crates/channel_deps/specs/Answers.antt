-- Answers that may be a fault of a port or want of memory in place of what is so.
use Rattle.std.specs.Prelude.{◌≡◌, ◌≢◌, Bool, true, false, Result, Ok, Err}
use Rattle.sexp_reader.specs.declared.fail.SexpFail.TheVariants as sexp
use Rattle.channel_file.specs.declared.fail.ChannelFail.TheVariants as file
use Rattle.auth_engine.specs.Answers.{IsStop}
use Rattle.channel_deps.specs.declared.set_fail.SetFail.{SetFail}
use Rattle.channel_deps.specs.declared.set_fail.SetFail.TheVariants.{Channel, Metadata, GitFault, SigFault, KeepFault, Memory}

abbrev pub is_git_fault : {T : Type 0} → Result T SetFail → Bool
is_git_fault (Err GitFault) = true
is_git_fault _ = false

abbrev pub is_sig_fault : {T : Type 0} → Result T SetFail → Bool
is_sig_fault (Err SigFault) = true
is_sig_fault _ = false

abbrev pub is_keep_fault : {T : Type 0} → Result T SetFail → Bool
is_keep_fault (Err KeepFault) = true
is_keep_fault _ = false

-- something that is so of every answer but a fault and want of memory
abbrev pub OnFinding : {T : Type 0} → Result T SetFail → Type 0 → Type 0
OnFinding (Err GitFault) fact = Unit {0}
OnFinding (Err SigFault) fact = Unit {0}
OnFinding (Err KeepFault) fact = Unit {0}
OnFinding (Err Memory) fact = Unit {0}
OnFinding _ fact = fact

-- the answer is this value, unless it is a port's fault or want of memory
abbrev pub Gives : {T : Type 0} → Result T SetFail → Result T SetFail → Type 0
Gives (Err GitFault) value = Unit {0}
Gives (Err SigFault) value = Unit {0}
Gives (Err KeepFault) value = Unit {0}
Gives (Err Memory) value = Unit {0}
Gives answer value = answer ≡ value

-- what is told with a channel's name is neither a port's fault nor want of memory
abbrev pub IsPlainFail : SetFail → Type 0
IsPlainFail (Channel name why) = ¬ IsStop why
IsPlainFail (Metadata name why) = (why ≢ file.Memory) × (why ≢ file.Sexp sexp.Memory)
IsPlainFail _ = Unit {0}

abbrev pub IsPlain : {T : Type 0} → Result T SetFail → Type 0
IsPlain (Ok value) = Unit {0}
IsPlain (Err fail) = IsPlainFail fail
