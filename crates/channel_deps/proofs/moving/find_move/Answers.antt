use Rattle.std.specs.FinMap as map
use Rattle.channel_deps.specs.Places.{deployed_key}
use Rattle.channel_deps.proofs.MoveLemmas.{recorded, kept_over}
use Rattle.channel_deps.proofs.moving.find_move.Goals as goal

pub returns-in-Some-recorded-clause-moved : goal.returns-in-Some-recorded-clause-moved
returns-in-Some-recorded-clause-moved g c = λ git keeper.
    let rows = g.G.GitPort.table c.args.git.now in
    let channel = c.args.channel.now in
    let moved = recorded rows c.args.dir.now c.args.allowed channel c.in-Some-recorded.old c.args.new c.in-Some.bytes c.move_from.result (rw c.as_slice.ensures at c.in-Some-recorded.ensures.some) (c.move_from.ensures.moved git) in
    kept_over rows c.args.dir.now c.args.allowed channel c.args.new (map.get (g.K.Keeper.kept c.args.keeper.now) (deployed_key channel)) c.in-Some.bytes c.move_from.result (rw c.in-Some.is at (c.in_ok-bytes.ensures.value keeper)) moved
