use Rattle.std.proofs.Common.{ℕ, ◌<◌, ◌≤◌}
use Rattle.std.specs.List.{slice_index_or}
use Rattle.commit_graph.specs.History.{Name, Holds}
use Rattle.commit_history.proofs.walk.next_absent.Given as goal

abbrev pub invariant-loop-i : goal.invariant-loop-i
invariant-loop-i l = (k : ℕ) (d : Name) → l.from ≤ k → k < l.i → Holds l.graph.held (slice_index_or l.ids k d)
