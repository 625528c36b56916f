use Rattle.std.proofs.Common.{◌≡◌, ◌∙◌, sym, ap, subst, All, vec_capacity}
use Rattle.commit_graph.specs.History.{Holds}
use Rattle.commit_graph.specs.Uncovering.{counted_ids}
use Rattle.commit_graph.proofs.UncoveredLemmas.{counted_held, uncovered_result, whole_there}
use Rattle.commit_graph.proofs.graph.Graph.uncovered.Goals as goal

pub closure-requires-clause-whole : goal.closure-requires-clause-whole
closure-requires-clause-whole c =
    whole_there c.self.inside.nodes.entries c.args.self.now.held (vec_capacity c.self.inside.work) (ap (λ h. h.held) c.self.view_is)
    (c.self.invariant.ranks (ap (λ h. h.ranked) c.self.view_is ∙ c.requires.ranked))

pub closure-requires-clause-held : goal.closure-requires-clause-held
closure-requires-clause-held c =
    let held = c.args.self.now.held in
    let whole = whole_there c.self.inside.nodes.entries held (vec_capacity c.self.inside.work) (ap (λ h. h.held) c.self.view_is) (c.self.invariant.ranks (ap (λ h. h.ranked) c.self.view_is ∙ c.requires.ranked)) in
    let kept : c.in_ok-kept.kept ≡ counted_ids c.in_ok-near.near c.in_ok-far.far c.args.intro c.args.entries.now = c.in_ok-kept.ensures.ids ∙ ap (counted_ids c.in_ok-near.near c.in_ok-far.far c.args.intro) c.as_slice.ensures in
    subst (All (Holds held)) (sym kept) (counted_held held c.args.target c.args.intro c.args.entries.now c.in_ok-near.near c.in_ok-far.far whole c.requires.holds_target c.requires.holds_intro c.in_ok-near.ensures.reached c.in_ok-far.ensures.reached)

pub returns-clause-uncovered : goal.returns-clause-uncovered
returns-clause-uncovered c =
    let kept : c.in_ok-kept.kept ≡ counted_ids c.in_ok-near.near c.in_ok-far.far c.args.intro c.args.entries.now = c.in_ok-kept.ensures.ids ∙ ap (counted_ids c.in_ok-near.near c.in_ok-far.far c.args.intro) c.as_slice.ensures in
    uncovered_result c.self.inside.nodes.entries c.args.self.now.held (vec_capacity c.self.inside.work) c.args.target c.args.intro c.args.entries.now c.in_ok-kept.kept c.in_ok-near.near c.in_ok-far.far c.in_ok-covered.covered c.in_ok-rows.rows.keys c.ids_of.result
    (ap (λ h. h.held) c.self.view_is) (c.self.invariant.ranks (ap (λ h. h.ranked) c.self.view_is ∙ c.requires.ranked)) c.requires.holds_target c.in_ok-near.ensures.reached c.in_ok-far.ensures.reached kept c.in_ok-covered.ensures.reached
    c.in_ok-rows.ensures.sound c.in_ok-rows.ensures.complete c.ids_of.ensures.ordered c.ids_of.ensures.ids
