use Rattle.commit_graph.proofs.CoveredLemmas.{IsCovered-parent}
use Rattle.commit_history.specs.Members.{history}
use Rattle.auth_engine.proofs.laws.covered_is_closed.Goals as goal

pub returns : goal.returns
returns c = record { closed = λ w target intro entries. IsCovered-parent (history w) target intro entries }
