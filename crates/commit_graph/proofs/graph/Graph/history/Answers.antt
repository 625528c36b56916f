use Rattle.std.proofs.Common.{sym, subst, All}
use Rattle.commit_graph.specs.History.{Holds}
use Rattle.commit_graph.proofs.UncoveredLemmas.{one_held, one_reached}
use Rattle.commit_graph.proofs.graph.Graph.history.Goals as goal

pub closure-requires-clause-held : goal.closure-requires-clause-held
closure-requires-clause-held c = subst (All (Holds c.args.self.now.held)) (sym c.in-Ok.ensures) (one_held c.args.self.now.held c.args.id c.requires.held)

pub returns-clause-reached : goal.returns-clause-reached
returns-clause-reached c = one_reached c.args.self.now.held c.args.id c.in-Ok.ids c.closure.result c.in-Ok.ensures c.closure.ensures.reached
