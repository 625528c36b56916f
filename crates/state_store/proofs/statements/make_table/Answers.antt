use Rattle.std.proofs.Common.{Ok}
use Rattle.sqlite.specs.Held.{state}
use Rattle.state_store.proofs.UpsertLemmas.{makes}
use Rattle.state_store.proofs.StepLemmas.{makes_again}
use Rattle.state_store.proofs.statements.make_table.Goals as goal

pub returns-clause-made : goal.returns-clause-made
returns-clause-made g c up blank = makes (state g.S.Store c.args.conn.now) (state g.S.Store c.execute.new.self) (Ok c.in_ok-execute.field-0) blank (c.in_ok-execute.ensures.runs up.clean)

pub returns-clause-kept : goal.returns-clause-kept
returns-clause-kept g c up rests = makes_again (state g.S.Store c.args.conn.now) (state g.S.Store c.execute.new.self) (Ok c.in_ok-execute.field-0) rests (c.in_ok-execute.ensures.runs up.clean)
