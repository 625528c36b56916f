use Rattle.set_laws.proofs.TellingLemmas.{never_fails}
use Rattle.set_laws.proofs.laws.sound_caches_tell_the_verdict.Goals as goal

pub returns : goal.returns
returns c = record { told = λ o s verdict fail sound accepted outcome. never_fails o s verdict accepted sound fail outcome }
