-- `Sizes::depth` meets its contract.
-- Assumes nothing.
use native.Mathlib.Omega.{arith}
use Rattle.code.proofs.Sizes.{depth-few}
use Rattle.r1cs.proofs.sizes.Sizes.depth.Goals as goal

pub returns : goal.returns
returns c = (c.depth_of.ensures, omega (arith, depth-few c.args.self.k c.args.self.k_count, c.depth_of.ensures))
