use Rattle.keyring_branch.proofs.GenuineLemmas.{part_of_id}
use Rattle.keyring_branch.proofs.branch.read_file.Goals as goal

pub returns-in_ok-part-in-Ok-Found-clause-genuine : goal.returns-in_ok-part-in-Ok-Found-clause-genuine
returns-in_ok-part-in-Ok-Found-clause-genuine g c = part_of_id _ c.args.id.now c.in-Ok-Found.object c.in_ok-part-in-Ok-Found.part (rw c.in-Ok-Found.field-0-is at c.in-Ok-Found.ensures.genuine) c.in_ok-part-in-Ok-Found.ensures.exact
