use Rattle.state_store.proofs.StepLemmas.{memory_stays}
use Rattle.state_store.proofs.memory_table.MemoryTable.put.Goals as goal

pub invariant_of-self : goal.invariant_of-self
invariant_of-self c = (c.put_all.ensures (memory_stays c.put_all.new.conn) c.self.invariant).rests

pub returns-clause-ok : goal.returns-clause-ok
returns-clause-ok c = rw (← c.self.view_is) (c.put_all.ensures (memory_stays c.put_all.new.conn) c.self.invariant).all

pub returns-clause-err : goal.returns-clause-err
returns-clause-err c = rw (← c.self.view_is) (c.put_all.ensures (memory_stays c.put_all.new.conn) c.self.invariant).none
