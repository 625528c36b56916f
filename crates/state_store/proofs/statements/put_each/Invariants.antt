use Rattle.std.proofs.Common.{◌≡◌, take}
use Rattle.sqlite.specs.State.{HasCleanDisk}
use Rattle.sqlite.specs.Held.{state}
use Rattle.state_store.specs.Statements.{IsInside, PutsInside, put_text}
use Rattle.state_store.proofs.statements.put_each.Given as goal

abbrev pub invariant-loop-pair : goal.invariant-loop-pair
invariant-loop-pair g l =
    let old = state g.S.Store l.fn.transaction.conn.now in
    let now = state g.S.Store l.transaction.conn.now in
    (l.transaction.conn.ghost_name ≡ l.fn.transaction.conn.ghost_name)
    × (HasCleanDisk now → HasCleanDisk old)
    × (HasCleanDisk now → l.statement.text ≡ put_text → IsInside old → PutsInside (take l.pair-index l.pairs) old now)
