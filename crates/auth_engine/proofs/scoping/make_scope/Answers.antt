use Rattle.std.proofs.Common.{◌∙◌, ap}
use Rattle.child_ports.specs.KeySet.{Keys}
use Rattle.auth_engine.proofs.ScopingLemmas.{meets_itself}
use Rattle.auth_engine.proofs.scoping.make_scope.Goals as goal

pub returns : goal.returns
returns c = ap (λ (keys : Keys). record { intro = c.args.task.now.intro; signer = c.args.task.now.signer; keyring_tree = c.args.ring.now.tree; historical = keys }) (c.in_ok-historical.ensures ∙ meets_itself c.args.task.now.historical)
