use Rattle.std.proofs.Common.{◌≡◌, take}
use Rattle.std.specs.BTreeMap as tree
use Rattle.child_ports.specs.KeySet.{key_cmp}
use Rattle.child_ports.specs.declared.fingerprint.Fingerprint.{Fingerprint}
use Rattle.auth_engine.specs.Counting.{counted}
use Rattle.auth_engine.specs.Tally.{count_of}
use Rattle.auth_engine.proofs.counting.count_keys.Given as goal

abbrev pub invariant-loop-key : goal.invariant-loop-key
invariant-loop-key l = (key : Fingerprint) → tree.get key_cmp l.counts key ≡ counted (count_of (take l.key-index l.signers) key)
