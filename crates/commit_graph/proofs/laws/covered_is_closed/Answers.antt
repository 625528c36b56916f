use Rattle.commit_graph.specs.Covers.{listed_in}
use Rattle.commit_graph.proofs.CoveredLemmas.{IsCovered-parent}
use Rattle.commit_graph.proofs.laws.covered_is_closed.Goals as goal

pub returns : goal.returns
returns c = record { closed = λ parents. IsCovered-parent (listed_in parents) }
