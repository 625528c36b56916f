use Rattle.state_store.proofs.PlaceLemmas.{opened_before}
use Rattle.state_store.proofs.place.Place.value.Goals as goal

pub returns-clause-file_same : goal.returns-clause-file_same
returns-clause-file_same c = opened_before _ c.args.self.now c.open.new.self c.value_if_open.new.self c.open.ensures.once c.value_if_open.ensures.file_same

pub returns-clause-file_value : goal.returns-clause-file_value
returns-clause-file_value c = opened_before _ c.args.self.now c.open.new.self c.value_if_open.new.self c.open.ensures.once c.value_if_open.ensures.file_value
