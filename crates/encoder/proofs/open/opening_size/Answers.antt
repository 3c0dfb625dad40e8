-- `open::opening_size` meets its contract.
use native.Mathlib.Omega.{arith}
use Rattle.encoder.proofs.OpeningLaws.{size_small}
use Rattle.encoder.proofs.open.opening_size.Goals as goal

pub overflow_mul-result : goal.overflow_mul-result
overflow_mul-result c = omega (arith, c.depth_of.ensures, size_small c.args.k c.requires)

pub overflow_add-result : goal.overflow_add-result
overflow_add-result c = omega (arith, c.depth_of.ensures, size_small c.args.k c.requires)
