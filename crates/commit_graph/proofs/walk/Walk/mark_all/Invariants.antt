use Rattle.std.proofs.Common.{◌≡◌, take}
use Rattle.commit_graph.specs.Walk.{put_all}
use Rattle.commit_graph.proofs.walk.Walk.mark_all.Given as goal

abbrev pub invariant-loop-id : goal.invariant-loop-id
invariant-loop-id l = l.self ≡ put_all l.initial.self (take l.id-index l.ids)
