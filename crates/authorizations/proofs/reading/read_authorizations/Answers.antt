use Rattle.authorizations.proofs.FileLemmas.{file_is_read, fault_is_named}
use Rattle.authorizations.proofs.reading.read_authorizations.Goals as goal

pub returns-clause-found : goal.returns-clause-found
returns-clause-found c = file_is_read c.args.bytes.now c.read_keys.ensures.first c.read_keys.ensures.none

pub returns-clause-fault : goal.returns-clause-fault
returns-clause-fault c = fault_is_named c.args.bytes.now c.read_keys.result c.read_keys.ensures.first c.read_keys.ensures.none c.read_keys.ensures.keys
