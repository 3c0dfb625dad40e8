-- `field::reduce` meets its contract: the sum without p times its quotient is its remainder. The promise stands before the bounds, so that a wrong
-- test is refused for it.
-- Assumes nothing.
use native.Mathlib.Omega.{arith}
use Rattle.field.proofs.Laws.{val-ofℕ}
use Rattle.field.proofs.Sum.{test-is-quotient}
use Rattle.field.proofs.reduce.Goals as goal

pub returns : goal.returns
returns c = omega (arith, test-is-quotient c.args.sum (omega arith), val-ofℕ c.args.sum)

pub overflow_mul-result : goal.overflow_mul-result
overflow_mul-result c = omega (arith, test-is-quotient c.args.sum (omega arith))

pub overflow_sub-result : goal.overflow_sub-result
overflow_sub-result c = omega (arith, test-is-quotient c.args.sum (omega arith))
