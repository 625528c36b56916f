use Rattle.auth_engine.proofs.SeriesLemmas.{series_sound}
use Rattle.auth_engine.proofs.laws.series_is_sound.Goals as goal

pub returns : goal.returns
returns c = record { sound = λ check before series own. series_sound check before series own }
