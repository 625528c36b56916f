use Rattle.std.proofs.Common.{◌≡◌, ◌≤◌, length, drop}
use Rattle.std.specs.Prelude.{reverse}
use Rattle.child_ports.proofs.memory.pairs.last_first.Given as goal

abbrev pub invariant-loop-i : goal.invariant-loop-i
invariant-loop-i l = record { within : l.i ≤ length l.pairs; copied : l.copies.items ≡ reverse (drop l.i l.pairs) }

abbrev pub decreases-loop-i : goal.decreases-loop-i
decreases-loop-i l = l.i
