use Rattle.keyring_branch.proofs.FileLemmas.{is_dearmored, only_dearmored, is_armour_fault}
use Rattle.keyring_branch.proofs.dearmoring.dearmor.Goals as goal

pub returns-clause-found : goal.returns-clause-found
returns-clause-found c = is_dearmored c.args.file.now c.take_off.result c.take_off.ensures

pub returns-clause-only : goal.returns-clause-only
returns-clause-only c = only_dearmored c.args.file.now c.take_off.result c.take_off.ensures

pub returns-clause-fault : goal.returns-clause-fault
returns-clause-fault c = is_armour_fault c.args.file.now c.take_off.result c.take_off.ensures
