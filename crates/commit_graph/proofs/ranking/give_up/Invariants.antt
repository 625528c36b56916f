use Rattle.std.proofs.Common.{◌≡◌, List, ◌++◌, vec_len}
use Rattle.commit_graph.specs.History.{Name}
use Rattle.commit_graph.specs.Level.{GivesUp}
use Rattle.commit_graph.proofs.ranking.give_up.Given as goal

abbrev pub invariant-loop-id : goal.invariant-loop-id
invariant-loop-id l = (gone : List Name) × (l.initial.trail.items ≡ l.trail.items ++ gone) × GivesUp l.initial.nodes.entries l.nodes.entries gone

abbrev pub decreases-loop-id : goal.decreases-loop-id
decreases-loop-id l = vec_len l.trail
