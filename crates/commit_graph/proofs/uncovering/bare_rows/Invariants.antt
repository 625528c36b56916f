use Rattle.std.proofs.Common.{◌≡◌, map}
use Rattle.std.specs.Map.Iter.{deref_pair}
use Rattle.commit_graph.proofs.UncoveredLemmas.{rows_of}
use Rattle.commit_graph.proofs.uncovering.bare_rows.Given as goal

abbrev pub invariant-loop-id : goal.invariant-loop-id
invariant-loop-id l = l.rows.keys ≡ rows_of l.near l.covered (map deref_pair l.yielded)
