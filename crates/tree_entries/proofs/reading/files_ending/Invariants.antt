use Rattle.std.proofs.Common.{length}
use Rattle.tree_entries.specs.Asked.{file_again}
use Rattle.tree_entries.proofs.AskedLemmas.{Walked, FilesBy}
use Rattle.tree_entries.proofs.reading.files_ending.Given as goal

abbrev pub invariant-entries : goal.invariant-entries
invariant-entries l = Walked (file_again l.suffix) l.content l.rest (FilesBy l.suffix l.files)

abbrev pub decreases-entries : goal.decreases-entries
decreases-entries l = length l.rest
