-- The Reed-Solomon code over a commutative ring, at a list of points that is a parameter.
-- Paper 01, "Field, code and tree": the codeword of w holds, at position i, the sum of w_j × (point i)^j for j below k.
-- k is the length of w.
-- Assumes nothing.
use Rattle.std.specs.Prelude.{◌≡◌, List, map, ℕ, length, get_or}
use Rattle.algebra.specs.Ring.{CommRing}
use Rattle.algebra.specs.Sums.{sum_to}
use Rattle.algebra.specs.Polynomial.{pow}

module _ (R : CommRing) where
  open R use {carrier as K, zero as 𝟘, mul as ◌⊗◌}

  infixl 70 ◌⊗◌
  -- The sum of w_j × x^j for j below the length of w.
  unfoldable pub value_at : List K → K → K
  value_at w x = sum_to R (length w) (λ j. get_or w j 𝟘 ⊗ pow R x j)

  -- The value at each of the points.
  unfoldable pub codeword : List K → List K → List K
  codeword points w = map (value_at w) points

  -- The codeword of w has the values vs at the positions qs, and w has as many numbers as there are positions.
  pub record Takes (points : List K) (qs : List ℕ) (vs w : List K) : Type 0 where
    pub count : length w ≡ length qs
    pub values : map (λ q. get_or (codeword points w) q 𝟘) qs ≡ vs
