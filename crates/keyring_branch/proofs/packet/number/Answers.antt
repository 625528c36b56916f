use Rattle.std.proofs.Common.{◌*◌, ◌+◌, ap, ◌∙◌, arith, get_or}
use Rattle.keyring_branch.proofs.NumberLemmas.{below_more, below_four, value_more}
use Rattle.keyring_branch.proofs.packet.number.Goals as goal

pub loop-byte-preserved : goal.loop-byte-preserved
loop-byte-preserved c =
    let i = c.loop-byte.byte-index in
    let bytes = c.args.bytes.now in
    let below = below_more i c.loop-byte.number (get_or bytes i 0) c.loop-byte.invariant.below (omega (arith, c.type_inv.bytes i)) in
    record {
      value = ap (λ b. 256 * c.loop-byte.number + b) c.from.ensures ∙ value_more bytes i c.loop-byte.number c.loop-byte-test.true c.loop-byte.invariant.value;
      below = omega (arith, below, c.from.ensures);
    }

pub overflow_mul-number : goal.overflow_mul-number
overflow_mul-number c =
    let below = below_four c.loop-byte.byte-index c.loop-byte.number (omega arith) c.loop-byte.invariant.below in
    omega (arith, below)

pub overflow_add-number : goal.overflow_add-number
overflow_add-number c =
    let below = below_four c.loop-byte.byte-index c.loop-byte.number (omega arith) c.loop-byte.invariant.below in
    omega (arith, below, c.from.ensures, c.type_inv.bytes c.loop-byte.byte-index)
