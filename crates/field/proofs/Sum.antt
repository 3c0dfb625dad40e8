-- How often p goes into a sum of two numbers below p.
-- Assumes nothing.
use mathlib.Core.Path.{◌≡◌, refl}
use mathlib.Core.Bool.{Bool, true, false}
use Prim.Native.Nat.{ℕ, ◌*◌, ◌/◌, ◌<◌}
use native.Mathlib.Omega.{arith}
use borrow.Author.Tests.{leb-true, leb-false}
use lib.Dec.{leb}
use mir.Val.{bool_byte}
use Rattle.field.specs.BabyBear.{p}

-- The test whether it is p or more, as a number, is the quotient.
pub test-is-quotient : (sum : ℕ) → sum < 2 * p → bool_byte (leb p sum) ≡ sum / p
test-is-quotient sum h = by-test (leb p sum) refl
  where
    by-test : (t : Bool) → leb p sum ≡ t → bool_byte t ≡ sum / p
    by-test true e = omega (arith, leb-true p sum e)
    by-test false e = omega (arith, leb-false p sum e)
