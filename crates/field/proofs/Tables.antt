-- The rule of a table, shown at all of its entries by one test that the checker computes.
-- Assumes nothing.
use mathlib.Core.Path.{◌≡◌, refl, ap₂}
use mathlib.Core.Bool.{Bool, true, ◌&&◌}
use mathlib.Core.List.{List, [], ◌∷◌}
use Prim.Native.Nat.{ℕ, suc}
use lib.Dec.{T}
use lib.Ieee.Fits.{and_l, and_r}
use lib.ListN.{length}
use Rattle.algebra.specs.Lists.{build}

-- The test passes at each index and its entry.
abbrev pub every_entry : (ℕ → ℕ → Bool) → List ℕ → Bool
every_entry test [] = true
every_entry test (x ∷ xs) = test 0 x && every_entry (λ i. test (suc i)) xs

-- Where only f i passes the test at i, a table that passes at every index is the table of f.
pub table_of : (f : ℕ → ℕ) (test : ℕ → ℕ → Bool) → ((i x : ℕ) → T (test i x) → x ≡ f i) → (xs : List ℕ) → T (every_entry test xs) → xs ≡ build (length xs) f
table_of f test sound [] t = refl
table_of f test sound (x ∷ xs) t = ap₂ {C = List ℕ} ◌∷◌ (sound 0 x (and_l (test 0 x) (every_entry rest xs) t)) (table_of (λ i. f (suc i)) rest (λ i. sound (suc i)) xs (and_r (test 0 x) (every_entry rest xs) t))
  where
    rest : ℕ → ℕ → Bool
    rest i = test (suc i)
