-- After i turns the product has i factors y.
use mathlib.Core.Path.{◌≡◌}
use Rattle.algebra.specs.Polynomial.{pow}
use Rattle.field.specs.BabyBear.{R, val, ofℕ, ◌⊗◌}
use Rattle.harness.proofs.fields.lomvuze_test_chain_mul.Given as goal

abbrev pub invariant-loop-i : goal.invariant-loop-i
invariant-loop-i l = l.acc ≡ val (ofℕ l.x ⊗ pow R (ofℕ l.y) l._i)
