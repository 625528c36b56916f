use Rattle.std.specs.Io.KnownBytes.{Keeps}
use Rattle.real_ports.proofs.asked_child.read_some.Given as goal

abbrev pub invariant-loop : goal.invariant-loop
invariant-loop g l = record { kept : Keeps (g.O.Read.remaining l.fn.output) (g.O.Read.remaining l.output) }
