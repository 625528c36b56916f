use Rattle.auth_cache.proofs.CacheLemmas.{cache_same}
use Rattle.auth_cache.proofs.laws.what_is_written_is_read.Goals as goal

pub returns : goal.returns
returns c = record { read = cache_same }
