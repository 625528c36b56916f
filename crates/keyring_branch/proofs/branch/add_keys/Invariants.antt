use Rattle.std.proofs.Common.{◌≡◌, take}
use Rattle.std.specs.FinSet.{from_list, union}
use Rattle.keyring_branch.proofs.branch.add_keys.Given as goal

abbrev pub invariant-loop-key : goal.invariant-loop-key
invariant-loop-key l = l.keys ≡ union l.fn.keys (from_list (take l.key-index l.key-items))
