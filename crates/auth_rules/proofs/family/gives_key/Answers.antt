use Rattle.std.proofs.Common.{sym, ap, ◌∙◌}
use Rattle.std.specs.FinSet.{contains, contains-empty}
use Rattle.child_ports.specs.KeySet.{key_cmp}
use Rattle.auth_rules.specs.Consulting.{offered_by}
use Rattle.auth_rules.proofs.family.gives_key.Goals as goal

pub returns-in-Faulty : goal.returns-in-Faulty
returns-in-Faulty c =
    sym (ap (λ offer. contains (offered_by c.args.historical.now offer) c.args.key) c.in-Faulty.is ∙ contains-empty key_cmp c.args.key)
