use Rattle.std.proofs.Common.{drop, nat_eq, arith, length-drop, sym, eq-eqb}
use Rattle.std.proofs.lemmas.Bool.{ne_eqb}
use Rattle.std.proofs.lemmas.List.Sums.{common_prefix_len-le, common_prefix_len-drop_yes, common_prefix_len-drop_no}
use Rattle.object_frames.proofs.fronts.common.Goals as goal

pub loop-i-preserved : goal.loop-i-preserved
loop-i-preserved c =
    let text = c.args.text.now in
    let other = c.args.other.now in
    let i = c.loop-i.i in
    let step = common_prefix_len-drop_yes nat_eq text other i 0 0 (omega arith) (omega arith) (eq-eqb _ _ (sym c.if-other-i.false)) in
    record { within = omega arith; so_far = omega (arith, step, c.loop-i.invariant.so_far) }

pub returns-then-i-other-clause-value : goal.returns-then-i-other-clause-value
returns-then-i-other-clause-value c =
    omega (arith, (common_prefix_len-le nat_eq (drop c.loop-i.i c.args.text.now) (drop c.loop-i.i c.args.other.now)).1, length-drop c.loop-i.i c.args.other.now, c.loop-i.invariant.so_far)

pub returns-then-other-i-clause-value : goal.returns-then-other-i-clause-value
returns-then-other-i-clause-value c =
    let stop = common_prefix_len-drop_no nat_eq c.args.text.now c.args.other.now c.loop-i.i 0 0 (omega arith) (omega arith) (ne_eqb _ _ (λ e. c.if-other-i.true (sym e))) in
    omega (arith, stop, c.loop-i.invariant.so_far)

pub returns-clause-value : goal.returns-clause-value
returns-clause-value c =
    omega (arith, (common_prefix_len-le nat_eq (drop c.loop-i.i c.args.text.now) (drop c.loop-i.i c.args.other.now)).0, length-drop c.loop-i.i c.args.text.now, c.loop-i.invariant.so_far)
