-- `field::pow` meets its contract. The invariant is `Left`; the measure is what is left of the exponent.
-- Assumes nothing.
use Rattle.algebra.specs.Polynomial.{pow}
use Rattle.field.specs.BabyBear.{R, ofℕ}
use Rattle.field.proofs.Powers.{Left}
use Rattle.field.proofs.pow.Given as goal

abbrev pub invariant-loop-left : goal.invariant-loop-left
invariant-loop-left l = Left (pow R (ofℕ l.a) l.e) l.base l.left l.acc

abbrev pub decreases-loop-left : goal.decreases-loop-left
decreases-loop-left l = l.left
