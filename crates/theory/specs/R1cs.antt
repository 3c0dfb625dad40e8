-- A rank-1 constraint system (paper 01, "Claims and folds"): circuit, row sums, weights of rows, value.
-- Over any commutative ring. `get_or xs i d` is entry i of xs, counted from 0, and d past its end.
use Rattle.std.specs.Prelude.{Bool, true, false, List, [], ◌∷◌, ◌++◌, ℕ, zero, suc, ◌/◌, ◌%◌, ◌^◌, eqb, length, get_or}
use Rattle.algebra.specs.Ring.{CommRing}
use Rattle.algebra.specs.Sums.{sum_to, prod_to}

-- An entry of a matrix, and the three matrices of a circuit.
pub record Entry (K : Type 0) : Type 0 where
  pub row : ℕ
  pub column : ℕ
  pub value : K

pub record Circuit (K : Type 0) : Type 0 where
  pub A : List (Entry K)
  pub B : List (Entry K)
  pub C : List (Entry K)

-- Bit b of a row's number, counted from the lowest.
abbrev pub bit : ℕ → ℕ → ℕ
bit b j = j / 2 ^ b % 2

module _ (R : CommRing) where
  open R use {carrier as K, zero as 𝟘, one as 𝟙, add as ◌⊕◌, mul as ◌⊗◌, neg as ⊝◌}

  infixl 60 ◌⊕◌
  infixl 70 ◌⊗◌
  infixl 80 ⊝◌
  -- The element where the test holds, and else 0.
  abbrev pub only_if : Bool → K → K
  only_if true a = a
  only_if false a = 𝟘

  -- Row j of a matrix times z: the sum over the entries of that row.
  abbrev pub row_sum : List (Entry K) → List K → ℕ → K
  row_sum [] z j = 𝟘
  row_sum (e ∷ es) z j = only_if (eqb e.row j) (e.value ⊗ get_or z e.column 𝟘) ⊕ row_sum es z j

  -- (Az) × (Bz) - Cz in row j: 0 where the row holds.
  abbrev pub residual : Circuit K → List K → ℕ → K
  residual M z j = row_sum M.A z j ⊗ row_sum M.B z j ⊕ ⊝ row_sum M.C z j

  -- r where the bit is 1, 1 - r where it is 0.
  abbrev pub bit_weight : ℕ → K → K
  bit_weight zero r = 𝟙 ⊕ ⊝ r
  bit_weight (suc b) r = r

  -- The weight of row j: the product over the bits b of j, where r_0 belongs to the lowest bit.
  abbrev pub weight : List K → ℕ → K
  weight r j = prod_to R (length r) (λ b. bit_weight (bit b j) (get_or r b 𝟘))

  -- The sum over the 2^m rows of weight × ((Az)(Bz) - Cz).
  abbrev pub weighted_sum : Circuit K → List K → List K → K
  weighted_sum M r z = sum_to R (2 ^ length r) (λ j. weight r j ⊗ residual M z j)

  -- The value at r, x and w, with z = x followed by w.
  abbrev pub value : Circuit K → List K → List K → List K → K
  value M r x w = weighted_sum M r (x ++ w)
