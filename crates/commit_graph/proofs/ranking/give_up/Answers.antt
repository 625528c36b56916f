use Rattle.std.proofs.Common.{◌≡◌, [], ◌∷◌, ◌++◌, ap, ◌∙◌, append_assoc}
use Rattle.commit_graph.specs.Walk.{is_in}
use Rattle.commit_graph.proofs.GivingUpLemmas.{gave_more}
use Rattle.commit_graph.proofs.SettlingLemmas.{in_middle}
use Rattle.commit_graph.proofs.ranking.give_up.Goals as goal

pub loop-id-preserved : goal.loop-id-preserved
loop-id-preserved c =
    let gone = c.loop-id.invariant.0 in
    let more : c.args.trail.now.items ≡ c.pop.new.self.items ++ c.in-Some.id ∷ gone = c.loop-id.invariant.1 ∙ ap (λ ids. ids ++ gone) c.in-Some.ensures.items ∙ append_assoc c.pop.new.self.items (c.in-Some.id ∷ []) gone in (
      c.in-Some.id ∷ gone,
      more,
      gave_more c.args.nodes.now.entries c.loop-id.nodes.entries c.set_level.new.nodes.entries gone c.in-Some.id c.loop-id.invariant.2 c.set_level.ensures
          (c.requires c.in-Some.id (ap (λ ids. is_in ids c.in-Some.id) more ∙ in_middle c.pop.new.self.items c.in-Some.id gone)),
    )
