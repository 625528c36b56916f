use Rattle.std.proofs.Common.{◌≡◌, take, fold}
use Rattle.commit_graph.specs.Level.{lower}
use Rattle.commit_graph.proofs.node.least_absent.Given as goal

abbrev pub invariant-loop-id : goal.invariant-loop-id
invariant-loop-id l = l.least ≡ fold (lower l.nodes.entries) l.initial.least (take l.id-index l.ids)
