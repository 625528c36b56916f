use Rattle.std.proofs.Common.{◌≡◌, drop, map}
use Rattle.auth_rules.specs.Consulting.{faulty}
use Rattle.auth_rules.specs.Rules.{first}
use Rattle.auth_rules.proofs.family.first_faulty.Given as goal

abbrev pub invariant-loop-parent : goal.invariant-loop-parent
invariant-loop-parent l = first (map faulty l.parents) ≡ first (map faulty (drop l.parent-index l.parents))
