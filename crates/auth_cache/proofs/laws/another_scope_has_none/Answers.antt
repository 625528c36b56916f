use Rattle.auth_cache.proofs.CacheLemmas.{cache_other}
use Rattle.auth_cache.proofs.laws.another_scope_has_none.Goals as goal

pub returns : goal.returns
returns c = record { none = cache_other }
