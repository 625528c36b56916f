use Rattle.stand_world.proofs.HashLemmas.{found_here, not_here, none_left}
use Rattle.stand_world.proofs.hash.read_hash.Goals as goal

pub returns-then-is_decimal : goal.returns-then-is_decimal
returns-then-is_decimal c = found_here 256 c.loop-number.number c.args.digits.now c.loop-number.invariant c.loop-number-test.true c.if-is_decimal.ensures

pub loop-number-preserved : goal.loop-number-preserved
loop-number-preserved c = not_here 256 c.loop-number.number c.args.digits.now c.loop-number.invariant c.loop-number-test.true c.if-is_decimal.ensures

pub returns : goal.returns
returns c = none_left 256 c.loop-number.number c.args.digits.now c.loop-number.invariant c.loop-number-test.false
