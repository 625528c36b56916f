use Rattle.channel_deps.proofs.LawLemmas.{caches_sound}
use Rattle.channel_deps.proofs.laws.sound_caches_are_sound_or_none.Goals as goal

pub returns : goal.returns
returns c = record { sound = λ o s sound. caches_sound o s sound }
