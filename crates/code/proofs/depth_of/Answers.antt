-- `code::depth_of` meets its contract: the depth is the logarithm of 4k.
-- Assumes nothing.
use native.Mathlib.Omega.{arith}
use Rattle.code.proofs.Sizes.{count-few, count-positive, depth-only}
use Rattle.code.proofs.depth_of.Goals as goal

pub overflow_mul-k : goal.overflow_mul-k
overflow_mul-k c = omega (arith, count-few c.args.k c.requires)

pub ilog2-requires : goal.ilog2-requires
ilog2-requires c = omega (arith, count-positive c.args.k c.requires)

pub returns : goal.returns
returns c = depth-only c.args.k c.ilog2.result c.requires c.ilog2.ensures.power_le c.ilog2.ensures.next_power_gt
