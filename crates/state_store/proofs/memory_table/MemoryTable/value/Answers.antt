use Rattle.std.proofs.Common.{◌∙◌}
use Rattle.state_store.proofs.StepLemmas.{memory_stays}
use Rattle.state_store.proofs.memory_table.MemoryTable.value.Goals as goal

pub invariant_of-self : goal.invariant_of-self
invariant_of-self c = (c.select.ensures.same (memory_stays c.select.new.conn) c.self.invariant).rests

pub returns-clause-same : goal.returns-clause-same
returns-clause-same c = (c.select.ensures.same (memory_stays c.select.new.conn) c.self.invariant).same ∙ c.self.view_is

pub returns-clause-value : goal.returns-clause-value
returns-clause-value c = rw (← c.self.view_is) (c.select.ensures.value (memory_stays c.select.new.conn) c.self.invariant)
