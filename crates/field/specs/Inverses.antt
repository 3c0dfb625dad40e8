-- The inverses of the numbers below 64, as a table.
-- Assumes nothing.
use Rattle.std.specs.Prelude.{List, ℕ}
use Rattle.algebra.specs.Lists.{build}
use Rattle.field.specs.BabyBear.{val, ofℕ, inv}

-- Entry n is the number of the inverse of n. The inverse of 0 is 0.
unfoldable pub small_inverses : List ℕ
small_inverses = build 64 (λ n. val (inv (ofℕ n)))
