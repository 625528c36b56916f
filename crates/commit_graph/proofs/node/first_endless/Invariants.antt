use Rattle.std.proofs.Common.{◌≢◌, ℕ, ◌<◌, Some}
use Rattle.std.specs.List.{slice_index_or}
use Rattle.commit_graph.specs.declared.level.Level.TheVariants.{Endless}
use Rattle.commit_graph.specs.History.{Name}
use Rattle.commit_graph.specs.Level.{level_at}
use Rattle.commit_graph.proofs.node.first_endless.Given as goal

abbrev pub invariant-loop-id : goal.invariant-loop-id
invariant-loop-id l = (j : ℕ) (d : Name) → j < l.id-index → level_at l.nodes.entries (slice_index_or l.ids j d) ≢ Some Endless
