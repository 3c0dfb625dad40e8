-- `basis::basis` meets its contract. The invariant: the product of the factors of the nodes below j.
use mathlib.Core.Path.{◌≡◌}
use Rattle.algebra.specs.Sums.{prod_to}
use Rattle.field.specs.BabyBear.{R, val}
use Rattle.fold.proofs.Factors.{factor_of}
use Rattle.fold.proofs.basis.basis.Given as goal

abbrev pub invariant-loop-j : goal.invariant-loop-j
invariant-loop-j l = l.product ≡ val (prod_to R l.j (factor_of l.i l.a))
