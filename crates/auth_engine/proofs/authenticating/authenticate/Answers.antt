use Rattle.std.proofs.Common.{Ok}
use Rattle.std.specs.FinMap as map
use Rattle.auth_engine.proofs.OutcomeLemmas.{authentic, sound_or_none}
use Rattle.auth_engine.proofs.authenticating.authenticate.Goals as goal

pub returns-clause-authentic : goal.returns-clause-authentic
returns-clause-authentic g c = λ git sig keeper sound.
    let rows = g.G.GitPort.table c.args.git.now in
    let sigs = g.V.SigPort.table c.args.sig.now in
    let kept = map.get (g.K.Keeper.kept c.args.keeper.now) c.args.task.now.cache_key in
    authentic rows sigs c.args.task.now kept c.check.result sound (c.check.ensures.outcome git sig keeper (sound_or_none rows sigs c.args.task.now kept sound))
