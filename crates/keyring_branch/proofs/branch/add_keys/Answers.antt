use Rattle.std.proofs.Common.{sym}
use Rattle.keyring_branch.proofs.UnionLemmas.{union-empty, key_more}
use Rattle.keyring_branch.proofs.branch.add_keys.Goals as goal

pub loop-key-init : goal.loop-key-init
loop-key-init c = sym (union-empty c.args.keys.now)

pub loop-key-preserved : goal.loop-key-preserved
loop-key-preserved c = key_more c.args.keys.now c.loop-key.keys c.insert.new.self c.as_slice-key-items.result.now c.loop-key.key-index _ c.loop-key-test.true c.loop-key.invariant c.in_ok-insert.ensures.ok
