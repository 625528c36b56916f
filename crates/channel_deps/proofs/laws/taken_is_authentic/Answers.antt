use Rattle.channel_deps.proofs.LawLemmas.{taken_authentic}
use Rattle.channel_deps.proofs.laws.taken_is_authentic.Goals as goal

pub returns : goal.returns
returns c = record { authentic = λ o s channel taken is. taken_authentic o s channel taken is }
