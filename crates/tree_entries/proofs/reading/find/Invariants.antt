use Rattle.std.proofs.Common.{length}
use Rattle.tree_entries.specs.Asked.{name_again}
use Rattle.tree_entries.proofs.AskedLemmas.{Walked, FoundBy}
use Rattle.tree_entries.proofs.reading.find.Given as goal

abbrev pub invariant-entries : goal.invariant-entries
invariant-entries l = Walked (name_again l.name) l.content l.rest (FoundBy l.name l.found)

abbrev pub decreases-entries : goal.decreases-entries
decreases-entries l = length l.rest
