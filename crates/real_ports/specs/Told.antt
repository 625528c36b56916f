-- Which port's answer an answer of the system is.
use Rattle.std.specs.Prelude.{◌≡◌, ◌≢◌, Result, Ok, Err, MatchResult}
use Rattle.std.specs.IoError.{error_kind}
use Rattle.std.specs.declared.io.Error.{Error}
use Rattle.std.specs.declared.io.ErrorKind.TheVariants.{OutOfMemory}
use Rattle.child_ports.specs.declared.fail.PortFail.{PortFail}
use Rattle.child_ports.specs.declared.fail.PortFail.TheVariants.{Failed, Memory}

-- want of memory is told as such, and any other error is a failed call
pub record TellsError {T : Type 0} (error : Error) (result : Result T PortFail) : Type 0 where
  pub memory : error_kind error ≡ OutOfMemory → result ≡ Err Memory
  pub failed : error_kind error ≢ OutOfMemory → result ≡ Err Failed

-- a value is given on, and an error told as the port tells it
abbrev pub IsToldAs : {T : Type 0} → Result T Error → Result T PortFail → Type 0
IsToldAs answer result = MatchResult answer (λ value. result ≡ Ok value) (λ error. TellsError error result)
