use Rattle.std.specs.Prelude.{IsTrue}
use Rattle.run_answers.specs.Ended.{sunk}
use Rattle.authenticate_run.proofs.PlanRunLemmas.{named_tells}
use Rattle.authenticate_run.proofs.historical.historical_keys.Goals as goal

pub returns-in-Some-clause-shown : goal.returns-in-Some-clause-shown
returns-in-Some-clause-shown g c =
    named_tells (g.R.FileRoom.files c.args.room.now) c.args.plan.now c.in-Some.path c.as_str.result.now (IsTrue (g.R.FileRoom.tells c.args.room.now)) (IsTrue (g.E.Sink.tells c.args.err.now)) c.read_named.result
    (sunk (g.E.Sink.taken c.args.err.now) (g.E.Sink.faults c.args.err.now)) (sunk (g.E.Sink.taken c.read_named.new.err) (g.E.Sink.faults c.read_named.new.err))
    (g.R.FileRoom.faults c.args.room.now) (g.R.FileRoom.faults c.read_named.new.room) c.in-Some.is c.as_str.ensures c.read_named.ensures.shown
