use Rattle.commit_graph.specs.History.{IsParent}
use Rattle.auth_engine.proofs.RelatingLemmas.{same_commit, descendant}
use Rattle.auth_engine.proofs.relating.relate.Goals as goal

pub returns-in-Same-clause-relates : goal.returns-in-Same-clause-relates
returns-in-Same-clause-relates c = same_commit (IsParent c.args.graph.now.held) c.args.target c.args.intro c.in-Same.ensures.relation

pub returns-in-Descendant-clause-relates : goal.returns-in-Descendant-clause-relates
returns-in-Descendant-clause-relates c = descendant (IsParent c.args.graph.now.held) c.args.target c.args.intro c.requires.acyclic c.in-Descendant.ensures.relation.0 c.in-Descendant.ensures.relation.1
