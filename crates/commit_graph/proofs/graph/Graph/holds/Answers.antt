use Rattle.std.proofs.Common.{sym, ap, ◌∙◌}
use Rattle.std.specs.FinMap as map
use Rattle.commit_graph.proofs.HeldLemmas.{is_some-held}
use Rattle.commit_graph.proofs.graph.Graph.holds.Goals as goal

pub returns : goal.returns
returns c = record { held = c.contains_key.ensures ∙ sym (is_some-held c.self.inside.nodes.entries c.args.id) ∙ ap (λ h. map.contains_key h.held c.args.id) c.self.view_is }
