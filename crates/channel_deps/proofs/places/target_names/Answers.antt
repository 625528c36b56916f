use Rattle.std.proofs.Common.{◌≡◌, ℕ, List, codes, subst}
use Rattle.std.specs.Prelude.{IfOk}
use Rattle.channel_deps.specs.Places.{branch_names}
use Rattle.channel_deps.proofs.PlaceLemmas.{asked_id, asked_branch}
use Rattle.channel_deps.proofs.places.target_names.Goals as goal

pub returns-in-Some-clause-asked : goal.returns-in-Some-clause-asked
returns-in-Some-clause-asked c = asked_id c.id_names.result c.in-Some.commit c.id_names.ensures.names c.id_names.ensures.id

pub returns-in-None-clause-asked : goal.returns-in-None-clause-asked
returns-in-None-clause-asked c = asked_branch c.branch_names.result c.args.channel.now c.requires
    (subst (λ (branch : List ℕ). IfOk c.branch_names.result (λ names. names ≡ branch_names branch (codes "^{commit}"))) c.as_str.ensures c.branch_names.ensures)
