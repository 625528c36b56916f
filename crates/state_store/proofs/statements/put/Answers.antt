use Rattle.std.proofs.Common.{Ok, arith}
use Rattle.sqlite.specs.Held.{state}
use Rattle.state_store.proofs.StepLemmas.{puts_inside}
use Rattle.state_store.proofs.statements.put.Goals as goal

pub returns-clause-put : goal.returns-clause-put
returns-clause-put g c clean text inside =
    let end = c.execute_prepared.new.self.conn.now in
    puts_inside (state g.S.Store c.args.transaction.now.conn.now) (state g.S.Store end) c.args.pair.now (Ok c.in_ok-execute_prepared.field-0) inside
    (rw (text, c.params-to_sql.ensures, c.params-to_sql-2.ensures, c.as_str.ensures, c.as_slice.ensures) at (c.in_ok-execute_prepared.ensures.runs clean inside.begun))

pub returns-clause-clean : goal.returns-clause-clean
returns-clause-clean g c clean = omega (arith, c.execute_prepared.ensures.survives.clean)

pub returns-in_err-execute_prepared-clause-clean : goal.returns-in_err-execute_prepared-clause-clean
returns-in_err-execute_prepared-clause-clean g c clean = omega (arith, c.execute_prepared.ensures.survives.clean)
