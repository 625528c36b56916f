use Rattle.std.proofs.Common.{◌≡◌, map, ap, ◌∙◌, rules, fold, None}
use Rattle.std.proofs.lemmas.Map.Iter.{iter_end}
use Rattle.std.specs.Map.Iter.{deref_pair}
use Rattle.commit_graph.specs.Level.{lower}
use Rattle.commit_graph.proofs.MissingLemmas.{least_of_all}
use Rattle.commit_graph.proofs.graph.Graph.least_missing.Goals as goal

pub returns : goal.returns
returns c =
    let nodes = c.self.inside.nodes.entries in
    let whole : map deref_pair c.loop-node.yielded ≡ nodes = search (rules, iter_end) in
    least_of_all nodes c.args.self.now.held c.loop-node.least (ap (λ h. h.held) c.self.view_is) c.iter-node-items.ensures.found
    (c.loop-node.invariant ∙ ap (λ es. fold (λ least e. fold (lower nodes) least e.1.parents) None es) whole)
