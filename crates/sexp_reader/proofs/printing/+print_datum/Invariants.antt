use Rattle.std.proofs.Common.{map, take}
use Rattle.sexp_reader.specs.Tree.{tree}
use Rattle.sexp_reader.proofs.PrintedLemmas.{Lists}
use Rattle.sexp_reader.proofs.printing.+print_datum.Given as goal

abbrev pub invariant-loop-i : goal.invariant-loop-i
invariant-loop-i l = Lists l.fn.out l.out (map tree (take l.i l.item-items))
