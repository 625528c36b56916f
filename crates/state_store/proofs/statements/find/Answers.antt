use Rattle.sqlite.specs.Held.{state}
use Rattle.state_store.proofs.SelectLemmas.{finds_any, finds_none_any, queries_same}
use Rattle.state_store.proofs.statements.find.Goals as goal

pub returns-clause-same : goal.returns-clause-same
returns-clause-same g c up rests =
    let end = c.query_row.new.self in
    queries_same (state g.S.Store c.args.conn.now) (state g.S.Store end) _ c.query_row.result rests up.up (rw c.params-to_sql.ensures at (c.query_row.ensures.row up.clean))

pub returns-clause-found : goal.returns-clause-found
returns-clause-found g c up rests =
    let end = c.query_row.new.self in
    finds_any (state g.S.Store c.args.conn.now) (state g.S.Store end) c.args.key.now c.query_row.result rests (rw c.params-to_sql.ensures at (c.query_row.ensures.row up.clean))

pub returns-clause-absent : goal.returns-clause-absent
returns-clause-absent g c up rests none =
    let end = c.query_row.new.self in
    finds_none_any (state g.S.Store c.args.conn.now) (state g.S.Store end) c.args.key.now c.query_row.result rests (rw c.params-to_sql.ensures at (c.query_row.ensures.row up.clean)) none
