use Rattle.keyring_branch.proofs.GenuineLemmas.{tree_of}
use Rattle.keyring_branch.proofs.branch.fetch_root.Goals as goal

pub returns-in-Ok-Found-clause-genuine : goal.returns-in-Ok-Found-clause-genuine
returns-in-Ok-Found-clause-genuine g c = tree_of _ _ c.in-Ok-Found.object c.as_tree.result (rw c.in-Ok-Found.field-0-is at c.in-Ok-Found.ensures.genuine) c.as_tree.ensures.exact
