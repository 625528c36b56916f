use Rattle.auth_engine.proofs.StoredLemmas.{refusal_uncached, acceptance_uncached}
use Rattle.auth_engine.proofs.laws.outcome_without_a_cache.Goals as goal

pub returns : goal.returns
returns c = record {
  refusal = λ rows sigs task kept fail outcome other. refusal_uncached rows sigs task kept fail outcome other;
  acceptance = λ rows sigs task kept verdict outcome start begins. acceptance_uncached rows sigs task kept verdict outcome start begins;
}
