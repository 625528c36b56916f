use Rattle.std.proofs.Common.{◌≡◌, drop}
use Rattle.std.specs.List.{find}
use Rattle.auth_rules.specs.Consulting.{is_removed}
use Rattle.auth_rules.proofs.family.first_removed.Given as goal

abbrev pub invariant-loop-parent : goal.invariant-loop-parent
invariant-loop-parent l = find is_removed l.parents ≡ find is_removed (drop l.parent-index l.parents)
