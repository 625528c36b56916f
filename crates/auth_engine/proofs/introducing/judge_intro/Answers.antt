use Rattle.auth_rules.specs.World.{world_of}
use Rattle.auth_engine.proofs.AskedLemmas.{intro_accepted_asks, intro_refused_asks}
use Rattle.auth_engine.proofs.introducing.judge_intro.Goals as goal

pub returns-in-Ok-clause-asked : goal.returns-in-Ok-clause-asked
returns-in-Ok-clause-asked g c = λ tells sig_tells.
    let w = world_of (g.G.GitPort.table c.args.git.now) c.args.dir.now (g.V.SigPort.table c.args.sig.now) (g.V.SigPort.loaded c.args.sig.now) in
    intro_accepted_asks w c.args.scope.now c.args.keys.now (g.V.SigPort.asked c.args.sig.now) (g.V.SigPort.asked c.check_intro.new.sig) (c.in-Ok.ensures.answer tells sig_tells).0 (c.in-Ok.ensures.asked tells sig_tells)

pub returns-in-Err-Refused-clause-asked : goal.returns-in-Err-Refused-clause-asked
returns-in-Err-Refused-clause-asked g c = λ tells sig_tells.
    let w = world_of (g.G.GitPort.table c.args.git.now) c.args.dir.now (g.V.SigPort.table c.args.sig.now) (g.V.SigPort.loaded c.args.sig.now) in
    intro_refused_asks w c.args.scope.now.intro (g.V.SigPort.asked c.args.sig.now) (g.V.SigPort.asked c.check_intro.new.sig) (rw c.in-Err-Refused.field-0-is at c.in-Err-Refused.ensures.asked tells sig_tells)
