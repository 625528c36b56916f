use Rattle.std.proofs.Common.{◌≡◌, drop}
use Rattle.std.specs.List.{list_any}
use Rattle.auth_rules.specs.Consulting.{offers_file}
use Rattle.auth_rules.proofs.family.any_offers_file.Given as goal

abbrev pub invariant-loop-parent : goal.invariant-loop-parent
invariant-loop-parent l = list_any offers_file l.parents ≡ list_any offers_file (drop l.parent-index l.parents)
