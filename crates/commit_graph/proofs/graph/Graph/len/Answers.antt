use Rattle.std.proofs.Common.{sym, ap, ◌∙◌}
use Rattle.std.specs.FinMap as map
use Rattle.commit_graph.proofs.HeldLemmas.{len-held}
use Rattle.commit_graph.proofs.graph.Graph.len.Goals as goal

pub returns-clause-count : goal.returns-clause-count
returns-clause-count c = c.len.ensures.len ∙ sym (len-held c.self.inside.nodes.entries c.len.ensures.ordered) ∙ ap (λ h. map.len h.held) c.self.view_is
