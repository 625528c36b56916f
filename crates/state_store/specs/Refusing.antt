-- Which port's answer a refusal of the database is.
use Rattle.std.specs.Prelude.{◌≡◌, Result, Ok, Err, MatchResult}
use Rattle.child_ports.specs.declared.fail.PortFail.{PortFail}
use Rattle.child_ports.specs.declared.fail.PortFail.TheVariants as port
use Rattle.sqlite.specs.declared.error.Error.{Error}
use Rattle.sqlite.specs.declared.error.Error.TheVariants.{SqliteFailure}
use Rattle.sqlite.specs.declared.error.ErrorCode.TheVariants.{OutOfMemory}

-- want of memory is told as such, and any other refusal is a failed call
abbrev pub port_fail : Error → PortFail
port_fail (SqliteFailure OutOfMemory) = port.Memory
port_fail _ = port.Failed

-- a value is given on, and a refusal told as the port tells it
abbrev pub IsToldAs : {T : Type 0} → Result T Error → Result T PortFail → Type 0
IsToldAs answer result = MatchResult answer (λ value. result ≡ Ok value) (λ error. result ≡ Err (port_fail error))
