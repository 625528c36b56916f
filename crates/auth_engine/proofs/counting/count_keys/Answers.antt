use Rattle.std.proofs.Common.{◌≡◌, ◌∙◌, ◌≤◌, [], length, take, get_or, unwrap_or, ap, arith}
use Rattle.std.specs.BTreeMap as tree
use Rattle.child_ports.specs.KeySet.{key_cmp}
use Rattle.child_ports.specs.declared.fingerprint.Fingerprint.{Fingerprint}
use Rattle.auth_engine.specs.Tally.{count_of}
use Rattle.auth_engine.proofs.CountingLemmas.{count_so_far, at_most_all, counted_step}
use Rattle.auth_engine.proofs.counting.count_keys.Goals as goal

pub overflow_add-count : goal.overflow_add-count
overflow_add-count c =
    let d : Fingerprint = record { 0 = [] } in
    let i = c.loop-key.key-index in
    let key : Fingerprint = get_or c.args.signers.now i d in
    let count : c.unwrap_or-count.result ≡ count_of (take i c.args.signers.now) key =
    count_so_far (take i c.args.signers.now) key c.unwrap_or-count.result (tree.get key_cmp c.loop-key.counts key) (c.loop-key.invariant key) (c.unwrap_or-count.ensures ∙ ap (λ o. unwrap_or o 0) (c.copied.ensures ∙ c.get.ensures.value)) in
    let few : c.unwrap_or-count.result ≤ length c.args.signers.now = at_most_all c.args.signers.now i key c.unwrap_or-count.result count in
    omega arith

pub loop-key-preserved : goal.loop-key-preserved
loop-key-preserved c = λ q.
    let d : Fingerprint = record { 0 = [] } in
    let i = c.loop-key.key-index in
    let key : Fingerprint = get_or c.args.signers.now i d in
    let count : c.unwrap_or-count.result ≡ count_of (take i c.args.signers.now) key =
    count_so_far (take i c.args.signers.now) key c.unwrap_or-count.result (tree.get key_cmp c.loop-key.counts key) (c.loop-key.invariant key) (c.unwrap_or-count.ensures ∙ ap (λ o. unwrap_or o 0) (c.copied.ensures ∙ c.get.ensures.value)) in
    counted_step c.args.signers.now i d q c.unwrap_or-count.result (tree.get key_cmp c.loop-key.counts q) (tree.get key_cmp c.insert.new.self q) c.loop-key-test.true count (c.loop-key.invariant q) (c.in_ok-insert.ensures.updates.0 q)
