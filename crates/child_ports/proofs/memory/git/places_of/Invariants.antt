use Rattle.std.proofs.Common.{◌≤◌, length}
use Rattle.child_ports.specs.Places.{ArePlaced}
use Rattle.child_ports.proofs.memory.git.places_of.Given as goal

abbrev pub invariant-loop-i : goal.invariant-loop-i
invariant-loop-i l = record { within : l.i ≤ length l.rows; placed : ArePlaced (λ row. row.name) l.rows l.places l.i }

abbrev pub decreases-loop-i : goal.decreases-loop-i
decreases-loop-i l = l.i
