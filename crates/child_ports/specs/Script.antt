-- The calls on one object in memory, by their numbers.
use Rattle.std.specs.Prelude.{ℕ, List, Contains}
use Rattle.child_ports.specs.declared.memory.script.Script.{Script}
use Rattle.child_ports.specs.Causes.{one_more}

-- no call yet, and these numbers are to fail
abbrev pub unplayed : List ℕ → Script
unplayed numbers = record { fails = numbers; calls = 0; faults = 0 }

-- the number of the next call: calls are numbered from 1, and the last u64 is the last number
abbrev pub next_call : Script → ℕ
next_call script = one_more script.calls

-- the next call's number is among those that fail
abbrev pub FailsNext : Script → Type 0
FailsNext script = Contains script.fails (next_call script)

-- after a call that didn't fail
abbrev pub after_call : Script → Script
after_call script = record script { calls = next_call script }

-- after a call that failed
abbrev pub after_fault : Script → Script
after_fault script = record script { calls = next_call script; faults = one_more script.faults }
