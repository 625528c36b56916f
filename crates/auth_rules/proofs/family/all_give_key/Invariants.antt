use Rattle.std.proofs.Common.{◌≡◌, drop}
use Rattle.std.specs.FinSet.{contains}
use Rattle.std.specs.List.{list_all}
use Rattle.auth_rules.specs.Consulting.{offered}
use Rattle.auth_rules.proofs.family.all_give_key.Given as goal

abbrev pub invariant-loop-parent : goal.invariant-loop-parent
invariant-loop-parent l =
    list_all (λ parent. contains (offered l.historical parent) l.key) l.parents
    ≡ list_all (λ parent. contains (offered l.historical parent) l.key) (drop l.parent-index l.parents)
