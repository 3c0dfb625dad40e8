-- The Lagrange basis over the nodes `node 0` to `node (l - 1)` of a field, and combinations in it.
-- Assumes nothing.
use Rattle.std.specs.Prelude.{Bool, true, false, ℕ, eqb}
use Rattle.algebra.specs.Ring.{Field}
use Rattle.algebra.specs.Sums.{sum_to, prod_to}

module _ (F : Field) where
  open F use {ring as R, inv}
  open R use {carrier as K, one as 𝟙, add as ◌⊕◌, mul as ◌⊗◌, neg as ⊝◌}

  infixl 60 ◌⊕◌
  infixl 70 ◌⊗◌
  infixl 80 ⊝◌
  -- The factor (x - b) / (a - b), and 1 where the test says that a and b are one node.
  abbrev pub factor : Bool → K → K → K → K
  factor true a b x = 𝟙
  factor false a b x = (x ⊕ ⊝ b) ⊗ inv (a ⊕ ⊝ b)

  -- L_i at x: the product of (x - node j) / (node i - node j) over the other nodes j.
  abbrev pub basis : ℕ → (ℕ → K) → ℕ → K → K
  basis l node i x = prod_to R l (λ j. factor (eqb i j) (node i) (node j) x)

  -- The sum of L_i at x times v i.
  abbrev pub combine : ℕ → (ℕ → K) → (ℕ → K) → K → K
  combine l node v x = sum_to R l (λ i. basis l node i x ⊗ v i)
