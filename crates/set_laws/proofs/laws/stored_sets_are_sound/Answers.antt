use Rattle.set_laws.proofs.SoundLemmas.{stored_set_sound}
use Rattle.set_laws.proofs.laws.stored_sets_are_sound.Goals as goal

pub returns : goal.returns
returns c = record { sound = λ o s verdict listed sound accepted. stored_set_sound o s verdict listed sound accepted }
