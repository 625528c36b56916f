use Rattle.auth_engine.proofs.OutcomeLemmas.{accepted_authentic}
use Rattle.auth_engine.proofs.laws.accepted_is_authentic.Goals as goal

pub returns : goal.returns
returns c = record { authentic = λ rows sigs task kept verdict outcome. accepted_authentic rows sigs task kept verdict outcome }
