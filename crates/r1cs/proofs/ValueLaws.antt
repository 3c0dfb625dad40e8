-- The value of a circuit, row by row.
-- Assumes nothing.
use mathlib.Core.Path.{◌≡◌, sym, ap, ◌∙◌}
use mathlib.Core.List.{List, map}
use Prim.Native.Nat.{ℕ, ◌+◌, ◌*◌, ◌^◌, ◌%◌, ◌≤◌, ◌<◌}
use native.Mathlib.Nat.{mod-eq_of_lt, one-mul}
use native.Mathlib.Numerals.{add-one}
use native.Mathlib.Omega.{arith}
use lib.ListN.{get_or}
use lib.Pow.{pow_mono}
use Rattle.algebra.specs.Sums.{sum_to}
use Rattle.algebra.proofs.ListLaws.{get_or-build}
use Rattle.field.specs.BabyBear.{p, R, F, val, ofℕ, ◌⊕◌, ◌⊖◌, ◌⊗◌}
use Rattle.field.proofs.Laws.{val-zero, below-p}
use Rattle.field.proofs.Chains.{sum_of, difference-of, product-of}
use Rattle.theory.specs.R1cs.{row_sum, residual, weight}
use Rattle.theory.specs.Fp.{matrix, circuit}
use Rattle.r1cs.specs.Rows.{row_sums}

-- ---- the number of rows

pub rows_few : (m : ℕ) → m ≤ 6 → 2 ^ m ≤ 64
rows_few m h = pow_mono h

pub rows-shifted : (m : ℕ) → m ≤ 6 → 1 * 2 ^ m % 2 ^ 64 ≡ 2 ^ m
rows-shifted m h = ap (λ (n : ℕ). n % 2 ^ 64) (one-mul (2 ^ m)) ∙ mod-eq_of_lt (omega (arith, rows_few m h))

-- ---- the sum of a row

pub row_at : {sums : List ℕ} (entries z : List ℕ) (j : ℕ) → sums ≡ row_sums entries z → j < 64 → get_or sums j 0 ≡ val (row_sum R (matrix entries) (map ofℕ z) j)
unfolding row_sums
row_at entries z j e h = ap (λ (l : List ℕ). get_or l j 0) e ∙ get_or-build 64 (λ j. val (row_sum R (matrix entries) (map ofℕ z) j)) j 0 h

pub row_below : {sums : List ℕ} (entries z : List ℕ) (j : ℕ) → sums ≡ row_sums entries z → j < 64 → get_or sums j 0 < p
row_below entries z j e h = below-p (row_sum R (matrix entries) (map ofℕ z) j) (row_at entries z j e h)

-- ---- the sum over the rows

module _ (a b c r z : List ℕ) where
  -- Row j's part in the value.
  abbrev part : ℕ → F
  part j = weight R (map ofℕ r) j ⊗ residual R (circuit a b c) (map ofℕ z) j

  -- sum is the sum over the first j rows.
  abbrev pub Valued : ℕ → ℕ → Type 0
  Valued j sum = sum ≡ val (sum_to R j part)

  pub valued-none : Valued 0 0
  valued-none = sym val-zero

  module _ (j : ℕ) {sum : ℕ} (v : Valued j sum) where
    pub valued-more : {az bz cz : List ℕ} {product difference w term next : ℕ} → az ≡ row_sums a z → bz ≡ row_sums b z → cz ≡ row_sums c z → j < 64
        → product ≡ val (ofℕ (get_or az j 0) ⊗ ofℕ (get_or bz j 0)) → difference ≡ val (ofℕ product ⊖ ofℕ (get_or cz j 0))
        → w ≡ val (weight R (map ofℕ r) j) → term ≡ val (ofℕ w ⊗ ofℕ difference) → next ≡ val (ofℕ sum ⊕ ofℕ term) → Valued (j + 1) next
    valued-more ea eb ec h ep ed ew et en =
        let row : List ℕ → F = λ l. row_sum R (matrix l) (map ofℕ z) j in
        rw add-one
        (sum_of (sum_to R j part) (part j) v
        (product-of (weight R (map ofℕ r) j) (residual R (circuit a b c) (map ofℕ z) j) ew
        (difference-of (row a ⊗ row b) (row c)
        (product-of (row a) (row b) (row_at a z j ea h) (row_at b z j eb h) ep) (row_at c z j ec h) ed) et) en)
