use Rattle.std.proofs.Common.{sym, ap, ◌∙◌}
use Rattle.std.specs.Cmp.Lexicographic.{nat_list_cmp_total}
use Rattle.std.specs.FinSet as set
use Rattle.commit_graph.proofs.marks.Marks.has.Goals as goal

pub returns : goal.returns
returns c = record { marked = c.contains.ensures ∙ sym (set.contains-from_list nat_list_cmp_total c.self.inside.ids.keys c.args.id) ∙ ap (λ s. set.contains s c.args.id) c.self.view_is }
