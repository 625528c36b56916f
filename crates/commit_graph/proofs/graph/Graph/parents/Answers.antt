use Rattle.std.proofs.Common.{sym, ap, ◌∙◌, Some}
use Rattle.std.specs.Option.{option_map}
use Rattle.std.specs.FinMap as map
use Rattle.commit_graph.proofs.HeldLemmas.{get-held, parents_of}
use Rattle.commit_graph.proofs.graph.Graph.parents.Goals as goal

pub returns-in-Some : goal.returns-in-Some
returns-in-Some c = record {
  given =
      ap Some c.as_slice.ensures
      ∙ ap (option_map parents_of) c.in-Some.ensures.value
      ∙ sym (get-held c.self.inside.nodes.entries c.args.id)
      ∙ ap (λ h. map.get h.held c.args.id) c.self.view_is;
}

pub returns-in-None : goal.returns-in-None
returns-in-None c = record {
  given =
      ap (option_map parents_of) c.in-None.ensures.value
      ∙ sym (get-held c.self.inside.nodes.entries c.args.id)
      ∙ ap (λ h. map.get h.held c.args.id) c.self.view_is;
}
