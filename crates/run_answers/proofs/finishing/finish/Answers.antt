use Rattle.run_answers.specs.Ended.{stored, sunk}
use Rattle.run_answers.proofs.FinishLemmas.{no_room, no_store, is_stored}
use Rattle.run_answers.proofs.finishing.finish.Goals as goal
use Rattle.std.proofs.Common.{refl}

pub returns-in-Ok-clause-answer : goal.returns-in-Ok-clause-answer
returns-in-Ok-clause-answer g c = λ keeper out err.
    let kept = g.K.Keeper.kept c.args.keeper.now in
    let failed = g.K.Keeper.faults c.args.keeper.now in
    is_stored c.args.ending.now kept failed (sunk (g.O.Sink.taken c.args.out.now) (g.O.Sink.faults c.args.out.now)) (sunk (g.E.Sink.taken c.args.err.now) (g.E.Sink.faults c.args.err.now))
    c.show.result (stored (g.K.Keeper.kept c.store_all.new.keeper) (g.K.Keeper.faults c.store_all.new.keeper)) (sunk (g.O.Sink.taken c.show.new.out) (g.O.Sink.faults c.show.new.out))
    (sunk (g.E.Sink.taken c.show.new.err) (g.E.Sink.faults c.show.new.err))
    c.show.ensures.answer (c.in-Ok.ensures.ok keeper).1 (c.show.ensures.output out) (c.show.ensures.line err)

pub returns-in-Err-Failed-clause-answer : goal.returns-in-Err-Failed-clause-answer
returns-in-Err-Failed-clause-answer g c = λ keeper out err.
    let kept = g.K.Keeper.kept c.args.keeper.now in
    let failed = g.K.Keeper.faults c.args.keeper.now in
    no_store c.args.ending.now kept failed (sunk (g.O.Sink.taken c.args.out.now) (g.O.Sink.faults c.args.out.now)) (sunk (g.E.Sink.taken c.args.err.now) (g.E.Sink.faults c.args.err.now))
    c.tell.result (stored (g.K.Keeper.kept c.store_all.new.keeper) (g.K.Keeper.faults c.store_all.new.keeper)) (sunk (g.E.Sink.taken c.tell.new.err) (g.E.Sink.faults c.tell.new.err))
    c.tell.ensures.status (rw c.in-Err-Failed.field-0-is at c.in-Err-Failed.ensures.cause) (c.tell.ensures.put err)

pub returns-in-Err-Memory-clause-answer : goal.returns-in-Err-Memory-clause-answer
returns-in-Err-Memory-clause-answer g c = λ keeper out err.
    let kept = g.K.Keeper.kept c.args.keeper.now in
    let failed = g.K.Keeper.faults c.args.keeper.now in
    no_room c.args.ending.now kept failed (sunk (g.O.Sink.taken c.args.out.now) (g.O.Sink.faults c.args.out.now)) (sunk (g.E.Sink.taken c.args.err.now) (g.E.Sink.faults c.args.err.now))
    c.tell-in-Err-Memory.result (stored (g.K.Keeper.kept c.store_all.new.keeper) (g.K.Keeper.faults c.store_all.new.keeper)) (sunk (g.E.Sink.taken c.tell-in-Err-Memory.new.err) (g.E.Sink.faults c.tell-in-Err-Memory.new.err))
    c.tell-in-Err-Memory.ensures.status ((rw c.in-Err-Memory.field-0-is at c.in-Err-Memory.ensures.memory) refl keeper).1 (c.tell-in-Err-Memory.ensures.put err)
