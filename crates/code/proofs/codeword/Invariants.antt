-- `code::codeword` meets its contract. The invariant: the values at the first i positions are written.
-- Assumes nothing.
use mathlib.Core.List.{List, map}
use Prim.Native.Nat.{ℕ}
use lib.ListN.{get_or}
use Rattle.field.specs.BabyBear.{R, val, ofℕ}
use Rattle.code.specs.Codeword.{value_at}
use Rattle.algebra.proofs.Filling.{Filled}
use Rattle.code.proofs.codeword.Given as goal

-- The value at position i.
abbrev pub at : List ℕ → List ℕ → ℕ → ℕ
at w points i = val (value_at R (map ofℕ w) (ofℕ (get_or points i 0)))

abbrev pub invariant-loop-i : goal.invariant-loop-i
invariant-loop-i l = Filled (at l.w l.points) l.i l.out
