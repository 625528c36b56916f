use Rattle.std.proofs.Common.{◌↔◌, drop}
use Rattle.std.specs.List.{AllByRecursion}
use Rattle.child_ports.specs.Framed.{RowFits}
use Rattle.child_ports.proofs.rows.rows_fit.Given as goal

abbrev pub invariant-loop-row : goal.invariant-loop-row
invariant-loop-row l = AllByRecursion RowFits (drop l.row-index l.rows) ↔ AllByRecursion RowFits l.fn.rows
