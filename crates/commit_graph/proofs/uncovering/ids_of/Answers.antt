use Rattle.std.proofs.Common.{◌≡◌, map, ap, ◌∙◌, rules}
use Rattle.std.proofs.lemmas.Map.Iter.{iter_end}
use Rattle.std.specs.Map.Iter.{deref}
use Rattle.commit_graph.specs.Uncovering.{Row}
use Rattle.commit_graph.proofs.uncovering.ids_of.Goals as goal

pub returns-clause-ids : goal.returns-clause-ids
returns-clause-ids c =
    let whole : map deref c.loop-row.yielded ≡ c.args.rows.now.keys = search (rules, iter_end) in
    c.loop-row.invariant ∙ ap (map (λ (row : Row). row.1)) whole
