use Rattle.auth_cache.proofs.CacheLemmas.{found_is, only_memory, cause_is}
use Rattle.auth_cache.proofs.reading.read_cache.Goals as goal

pub returns-clause-found : goal.returns-clause-found
returns-clause-found c = found_is c.args.bytes.now c.args.scope.now c.read_entries.result c.read_entries.ensures

pub returns-clause-only : goal.returns-clause-only
returns-clause-only c = only_memory c.args.bytes.now c.args.scope.now c.read_entries.result c.read_entries.ensures

pub returns-clause-cause : goal.returns-clause-cause
returns-clause-cause c = cause_is c.args.bytes.now c.args.scope.now c.read_entries.result c.read_entries.ensures
