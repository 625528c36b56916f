use Rattle.std.proofs.Common.{◌≢◌, Some}
use Rattle.commit_graph.specs.declared.level.Level.TheVariants.{Unknown}
use Rattle.commit_graph.specs.Level.{level_at, total, steps_left}
use Rattle.commit_graph.proofs.SettlingLemmas.{IsDescent}
use Rattle.commit_graph.proofs.ranking.settle.Given as goal

abbrev pub invariant-loop-trail : goal.invariant-loop-trail
invariant-loop-trail l = IsDescent l.fn.nodes.entries l.nodes.entries l.trail.items × (level_at l.nodes.entries l.fn.id ≢ Some Unknown)

abbrev pub decreases-loop-trail : goal.decreases-loop-trail
decreases-loop-trail l = total steps_left l.nodes.entries
