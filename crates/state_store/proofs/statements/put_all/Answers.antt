use Rattle.std.proofs.Common.{◌≡◌, [], Err, sym, subst}
use Rattle.std.proofs.lemmas.Result.{err_from_is_err_and}
use Rattle.sqlite.specs.Held.{state}
use Rattle.state_store.specs.Statements.{put_text, StoresAll}
use Rattle.state_store.proofs.StepLemmas.{not_run, stores_none}
use Rattle.state_store.proofs.statements.put_all.Goals as goal

pub returns-in_err-statement : goal.returns-in_err-statement
returns-in_err-statement g c up rests =
    let old = state g.S.Store c.args.conn.now in
    let end = state g.S.Store c.prepare.new.self in
    let why = err_from_is_err_and c.from_residual.result c.from_residual.ensures.1 in
    let same = not_run old end put_text [] _ rests up.up (c.in_err-statement.ensures.err up.clean []) in
    subst (StoresAll c.args.pairs.now old end) (sym why.1) (stores_none old end c.args.pairs.now why.0 same)
