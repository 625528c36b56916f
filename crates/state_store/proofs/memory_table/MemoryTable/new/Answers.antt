use Rattle.state_store.proofs.StepLemmas.{memory_stays}
use Rattle.state_store.proofs.memory_table.MemoryTable.new.Goals as goal

pub invariant_of-result : goal.invariant_of-result
invariant_of-result c =
    let opened = c.in_ok-conn.ensures.empty in
    (c.in_ok-make_table.ensures.made (memory_stays c.make_table.new.conn) (record { ended = opened.0.autocommit; schema = opened.2 })).rests

pub returns : goal.returns
returns c =
    let opened = c.in_ok-conn.ensures.empty in
    (c.in_ok-make_table.ensures.made (memory_stays c.make_table.new.conn) (record { ended = opened.0.autocommit; schema = opened.2 })).empty
