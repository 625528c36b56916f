use Rattle.keyring_branch.proofs.FileLemmas.{is_key_file, only_key_file, is_key_fault}
use Rattle.keyring_branch.proofs.key_file.fingerprints.Goals as goal

pub returns-clause-found : goal.returns-clause-found
returns-clause-found c = is_key_file c.args.file.now c.read_keys.result c.read_keys.ensures

pub returns-clause-only : goal.returns-clause-only
returns-clause-only c = only_key_file c.args.file.now c.read_keys.result c.read_keys.ensures

pub returns-clause-fault : goal.returns-clause-fault
returns-clause-fault c = is_key_fault c.args.file.now c.read_keys.result c.read_keys.ensures
