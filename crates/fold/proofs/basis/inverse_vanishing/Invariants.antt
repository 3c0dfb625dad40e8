-- `basis::inverse_vanishing` meets its contract. The invariant: the product of the inverses of the factors of the nodes below j.
use mathlib.Core.Path.{◌≡◌}
use Prim.Native.Nat.{◌+◌}
use Rattle.algebra.specs.Sums.{prod_to}
use Rattle.field.specs.BabyBear.{baby_bear, R, val, ofℕ, inv, ◌⊖◌}
use Rattle.theory.specs.Combination.{node}
use Rattle.fold.proofs.basis.inverse_vanishing.Given as goal

abbrev pub invariant-loop-j : goal.invariant-loop-j
invariant-loop-j l = l.product ≡ val (prod_to R l.j (λ j1. inv (ofℕ (l.l + l.i) ⊖ node baby_bear j1)))
