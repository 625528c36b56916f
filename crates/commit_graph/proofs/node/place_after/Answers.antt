use Rattle.std.proofs.Common.{ap, ◌∙◌}
use Rattle.commit_graph.specs.Level.{place_after}
use Rattle.commit_graph.proofs.node.place_after.Goals as goal

-- src/node.rt:55:1
pub returns-in-Some : goal.returns-in-Some
returns-in-Some c = c.saturating_add.ensures ∙ ap place_after c.in-Some.ensures.value
