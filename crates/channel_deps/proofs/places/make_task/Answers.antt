use Rattle.std.proofs.Common.{IsTrue, sym, subst}
use Rattle.auth_engine.specs.Limits.{task_fits}
use Rattle.auth_engine.specs.declared.task.Task.{Task}
use Rattle.channel_deps.proofs.PlaceLemmas.{task_made, made_fits}
use Rattle.channel_deps.proofs.places.make_task.Goals as goal

pub returns-clause-task : goal.returns-clause-task
returns-clause-task c = rw c.new.ensures (task_made c.args.clones.now c.args.channel.now c.args.introduction c.args.reference.now c.args.target c.in_ok-dir.dir c.in_ok-cache_key.cache_key c.in_ok-names.names c.in_ok-keyring.keyring
    c.in_ok-dir.ensures c.in_ok-names.ensures.names (rw c.reference_of.ensures at c.in_ok-keyring.ensures) c.in_ok-cache_key.ensures)

pub returns-clause-fits : goal.returns-clause-fits
returns-clause-fits c = subst (λ (t : Task). IsTrue (task_fits t)) (sym (returns-clause-task c))
    (made_fits c.args.clones.now c.args.channel.now c.args.introduction c.args.reference.now c.args.target c.requires.fit c.requires.reference c.in_ok-names.ensures.id)
