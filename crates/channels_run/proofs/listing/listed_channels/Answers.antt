use Rattle.run_answers.specs.Ended.{sunk}
use Rattle.channels_run.specs.Listing.{list_at}
use Rattle.channels_run.proofs.ListLemmas.{tells_none, given_status}
use Rattle.channels_run.proofs.listing.listed_channels.Goals as goal

pub returns-clause-shown : goal.returns-clause-shown
returns-clause-shown g c = λ room err.
    tells_none (list_at (g.R.FileRoom.files c.args.room.now) c.args.path.now) c.args.path.now c.in-Err.fail c.tell_list.result
    (sunk (g.E.Sink.taken c.args.err.now) (g.E.Sink.faults c.args.err.now)) (sunk (g.E.Sink.taken c.tell_list.new.err) (g.E.Sink.faults c.tell_list.new.err))
    (g.R.FileRoom.faults c.args.room.now) (g.R.FileRoom.faults c.read_list.new.room) (c.in-Err.ensures.list room) c.in-Err.ensures.fault (c.tell_list.ensures.shown err)

pub returns-clause-given : goal.returns-clause-given
returns-clause-given g c = λ room ok.
    given_status (list_at (g.R.FileRoom.files c.args.room.now) c.args.path.now) c.in-Err.fail c.tell_list.result (c.in-Err.ensures.list room) c.tell_list.ensures.status ok
