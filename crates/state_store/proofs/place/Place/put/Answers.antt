use Rattle.state_store.proofs.PlaceLemmas.{opened_before}
use Rattle.state_store.proofs.place.Place.put.Goals as goal

pub returns-clause-file : goal.returns-clause-file
returns-clause-file c = opened_before _ c.args.self.now c.open.new.self c.put_if_open.new.self c.open.ensures.once c.put_if_open.ensures.file
