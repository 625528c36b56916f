use Rattle.std.proofs.Common.{◌≡◌, ◌<◌, sym, subst, arith, rules, length, Some, Contains, List}
use Rattle.commit_graph.specs.declared.level.Level.TheVariants.{Unknown}
use Rattle.commit_graph.specs.History.{Name}
use Rattle.commit_graph.specs.Level.{level_at}
use Rattle.commit_graph.proofs.StepLemmas.{place_parent}
use Rattle.commit_graph.proofs.node.next_unknown.Goals as goal

pub returns-then-eq : goal.returns-then-eq
returns-then-eq c =
    let parent = c.index-parents-i.result in
    let at : level_at c.args.nodes.now.entries parent ≡ Some Unknown = search rules in
    let low : c.loop-i.i < length c.as_slice-parents.result.now = omega (arith, c.loop-i-test.true) in
    (place_parent c.args.nodes.now.entries c.args.id c.in-Some.node.now parent (sym c.in-Some.ensures.value) (subst (λ (ps : List Name). Contains ps parent) c.as_slice-parents.ensures (c.loop-i.i, low, sym c.index-parents-i.is)), at)
