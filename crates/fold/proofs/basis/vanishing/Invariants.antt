-- `basis::vanishing` meets its contract. The invariant: the product of the factors of the nodes below j.
use mathlib.Core.Path.{◌≡◌}
use Rattle.algebra.specs.Sums.{prod_to}
use Rattle.field.specs.BabyBear.{baby_bear, R, val, ofℕ, ◌⊖◌}
use Rattle.theory.specs.Combination.{node}
use Rattle.fold.proofs.basis.vanishing.Given as goal

abbrev pub invariant-loop-j : goal.invariant-loop-j
invariant-loop-j l = l.product ≡ val (prod_to R l.j (λ j1. ofℕ l.a ⊖ node baby_bear j1))
