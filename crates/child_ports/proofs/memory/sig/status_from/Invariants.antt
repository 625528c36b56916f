use Rattle.std.proofs.Common.{◌≡◌, drop}
use Rattle.child_ports.specs.Sig.{verdict}
use Rattle.child_ports.proofs.memory.sig.status_from.Given as goal

abbrev pub invariant-loop-i : goal.invariant-loop-i
invariant-loop-i l = verdict (drop l.i l.rows) l.keyring l.signature l.payload ≡ verdict (drop l.start l.rows) l.keyring l.signature l.payload
