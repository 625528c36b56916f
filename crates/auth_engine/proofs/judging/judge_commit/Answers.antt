use Rattle.auth_rules.specs.Answers.{is_asked}
use Rattle.auth_rules.specs.World.{world_of}
use Rattle.auth_engine.proofs.JudgingLemmas.{asked_when}
use Rattle.auth_engine.proofs.judging.judge_commit.Goals as goal

pub returns-in-Ok-clause-asked : goal.returns-in-Ok-clause-asked
returns-in-Ok-clause-asked g c = λ tells sig_tells lists.
    let w = world_of (g.G.GitPort.table c.args.git.now) c.args.dir.now (g.V.SigPort.table c.args.sig.now) (g.V.SigPort.loaded c.args.sig.now) in
    asked_when (is_asked w c.args.id) (g.V.SigPort.asked c.args.sig.now) (g.V.SigPort.asked c.check_commit.new.sig) (c.in-Ok.ensures.asked tells sig_tells lists)

pub returns-in-Err-Refused-clause-asked : goal.returns-in-Err-Refused-clause-asked
returns-in-Err-Refused-clause-asked g c = λ tells sig_tells lists.
    let w = world_of (g.G.GitPort.table c.args.git.now) c.args.dir.now (g.V.SigPort.table c.args.sig.now) (g.V.SigPort.loaded c.args.sig.now) in
    asked_when (is_asked w c.args.id) (g.V.SigPort.asked c.args.sig.now) (g.V.SigPort.asked c.check_commit.new.sig) (rw c.in-Err-Refused.field-0-is at c.in-Err-Refused.ensures.asked tells sig_tells lists)
