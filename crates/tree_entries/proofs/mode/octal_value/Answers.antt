use Rattle.std.proofs.Common.{◌+◌, ◌*◌, ap, ◌∙◌, get_or, arith}
use Rattle.tree_entries.proofs.OctalLemmas.{octal_at, value_more, below_more}
use Rattle.tree_entries.proofs.mode.octal_value.Goals as goal

pub loop-digit-preserved : goal.loop-digit-preserved
loop-digit-preserved c =
    let i = c.loop-digit.digit-index in
    let digits = c.args.digits.now in
    let digit = octal_at digits i c.requires.octal c.loop-digit-test.true in
    let below = below_more i c.loop-digit.number (get_or digits i 0) c.loop-digit.invariant.below digit.0 digit.1 in
    record {
      value = ap (λ d. 8 * c.loop-digit.number + d) c.from.ensures ∙ value_more digits i c.loop-digit.number c.loop-digit-test.true c.loop-digit.invariant.value;
      below = omega (arith, below, c.from.ensures);
    }
