use Rattle.std.proofs.Common.{◌≡◌, map, ap, sym, subst, ◌∙◌, rules, All, Contains, List, [], ◌∷◌}
use Rattle.std.proofs.lemmas.Map.Iter.{iter_end}
use Rattle.std.specs.Map.Iter.{deref_pair}
use Rattle.commit_graph.specs.Uncovering.{Row, IsRow}
use Rattle.std.proofs.lemmas.List.{map-append}
use Rattle.commit_graph.proofs.UncoveredLemmas.{rows_of, rows_push, rows_sound, rows_complete}
use Rattle.commit_graph.proofs.uncovering.bare_rows.Goals as goal

pub returns-clause-sound : goal.returns-clause-sound
returns-clause-sound c =
    let nodes = c.args.nodes.now.entries in
    let whole : map deref_pair c.loop-id.yielded ≡ nodes = search (rules, iter_end) in
    let rows = c.loop-id.invariant ∙ ap (rows_of c.args.near.now c.args.covered.now) whole in
    subst (All (IsRow nodes c.args.near.now c.args.covered.now)) (sym rows) (rows_sound nodes c.args.near.now c.args.covered.now c.iter-id-items.ensures.found)

pub returns-clause-complete : goal.returns-clause-complete
returns-clause-complete c = λ row is.
    let nodes = c.args.nodes.now.entries in
    let whole : map deref_pair c.loop-id.yielded ≡ nodes = search (rules, iter_end) in
    let rows = c.loop-id.invariant ∙ ap (rows_of c.args.near.now c.args.covered.now) whole in
    subst (λ (ks : List Row). Contains ks row) (sym rows) (rows_complete nodes c.args.near.now c.args.covered.now row is)

pub loop-id-preserved-in-Ok-1 : goal.loop-id-preserved-in-Ok-1
loop-id-preserved-in-Ok-1 c =
    rows_push c.args.near.now c.args.covered.now (map deref_pair c.loop-id.yielded) (c.in-Some.id.now, c.in-Some.node.now) c.loop-id.rows.keys c.insert.new.self.keys c.in-Some-bare_row.row c.loop-id.invariant (sym c.in-Some-bare_row.is ∙ c.bare_row.ensures) c.in-Ok.ensures.keys
    ∙ ap (rows_of c.args.near.now c.args.covered.now) (sym (map-append deref_pair c.loop-id.yielded ((c.in-Some.id, c.in-Some.node) ∷ [])))
