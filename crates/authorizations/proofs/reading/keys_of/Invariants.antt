use Rattle.std.specs.Prelude.{map}
use Rattle.sexp_reader.specs.Tree.{tree}
use Rattle.authorizations.proofs.ReadingLemmas.{ReadSoFar}
use Rattle.authorizations.proofs.reading.keys_of.Given as goal

abbrev pub invariant-loop-index : goal.invariant-loop-index
invariant-loop-index l = ReadSoFar (map tree l.entries) l.index l.keys
