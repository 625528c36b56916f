use Rattle.std.proofs.Common.{◌≡◌, drop}
use Rattle.child_ports.specs.Git.{answer}
use Rattle.child_ports.proofs.memory.git.find_from.Given as goal

abbrev pub invariant-loop-i : goal.invariant-loop-i
invariant-loop-i l = answer (drop l.i l.rows) l.dir l.name ≡ answer (drop l.start l.rows) l.dir l.name
