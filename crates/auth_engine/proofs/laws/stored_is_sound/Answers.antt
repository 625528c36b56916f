use Rattle.auth_engine.proofs.StoredLemmas.{stored_sound}
use Rattle.auth_engine.proofs.laws.stored_is_sound.Goals as goal

pub returns : goal.returns
returns c = record { sound = λ rows sigs task kept verdict sound outcome. stored_sound rows sigs task kept verdict sound outcome }
