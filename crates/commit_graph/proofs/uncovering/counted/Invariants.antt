use Rattle.std.proofs.Common.{◌≡◌, take}
use Rattle.commit_graph.specs.Uncovering.{counted_ids}
use Rattle.commit_graph.proofs.uncovering.counted.Given as goal

abbrev pub invariant-loop-entry : goal.invariant-loop-entry
invariant-loop-entry l = l.ids ≡ counted_ids l.near l.far l.fn.intro (take l.entry-index l.entries)
