use Rattle.auth_engine.proofs.OutcomeLemmas.{cause_uncovered, first_refused}
use Rattle.auth_engine.proofs.laws.cause_is_uncovered.Goals as goal

pub returns : goal.returns
returns c = record {
  uncovered = λ w s keys target entries whole sound commit is some. cause_uncovered w s keys target entries whole sound commit is some;
  first = λ w s keys target entries commits id why whole sound new found. first_refused w s keys target entries whole sound commits id why new found;
}
