use Rattle.std.proofs.Common.{List, subst}
use Rattle.commit_graph.specs.Covers.{AreUncovered}
use Rattle.commit_graph.specs.History.{IsParent}
use Rattle.auth_rules.specs.World.{Id}
use Rattle.auth_engine.proofs.NewLemmas.{few_new, families}
use Rattle.auth_engine.proofs.relating.uncovered_commits.Goals as goal

pub returns-in-Ok-clause-few : goal.returns-in-Ok-clause-few
returns-in-Ok-clause-few c =
    let new = subst (λ (entries : List Id). AreUncovered (IsParent c.args.graph.now.held) c.args.target c.args.intro entries c.in-Ok.commits) c.as_list.ensures.ids c.in-Ok.ensures.uncovered in
    few_new c.args.graph.now.held c.requires.whole c.args.target c.args.intro c.args.entries.now c.in-Ok.commits c.requires.holds_target c.requires.few new

pub returns-in-Ok-clause-families : goal.returns-in-Ok-clause-families
returns-in-Ok-clause-families c =
    let new = subst (λ (entries : List Id). AreUncovered (IsParent c.args.graph.now.held) c.args.target c.args.intro entries c.in-Ok.commits) c.as_list.ensures.ids c.in-Ok.ensures.uncovered in
    families c.args.graph.now.held c.requires.whole c.args.target c.args.intro c.args.entries.now c.in-Ok.commits c.requires.holds_target new
