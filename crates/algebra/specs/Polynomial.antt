-- Polynomials over a commutative ring, as lists of coefficients, lowest first; powers; and the functions that are given by a polynomial.
-- Assumes nothing.
use Rattle.std.specs.Prelude.{◌≡◌, List, [], ◌∷◌, ℕ, zero, suc, ◌≤◌, length}
use Rattle.algebra.specs.Ring.{CommRing}

module _ (R : CommRing) where
  open R use {carrier as K, zero as 𝟘, one as 𝟙, add as ◌⊕◌, mul as ◌⊗◌}

  infixl 60 ◌⊕◌
  infixl 70 ◌⊗◌
  -- The value at x of the polynomial with these coefficients.
  abbrev pub eval_poly : List K → K → K
  eval_poly [] x = 𝟘
  eval_poly (c ∷ cs) x = c ⊕ x ⊗ eval_poly cs x

  -- The sum of two polynomials.
  abbrev pub add_poly : List K → List K → List K
  add_poly [] ds = ds
  add_poly (c ∷ cs) [] = c ∷ cs
  add_poly (c ∷ cs) (d ∷ ds) = (c ⊕ d) ∷ add_poly cs ds

  -- The multiple of a polynomial by a number.
  abbrev pub scale_poly : K → List K → List K
  scale_poly a [] = []
  scale_poly a (c ∷ cs) = (a ⊗ c) ∷ scale_poly a cs

  -- The product of two polynomials.
  abbrev pub mul_poly : List K → List K → List K
  mul_poly [] ds = []
  mul_poly (c ∷ cs) ds = add_poly (scale_poly c ds) (𝟘 ∷ mul_poly cs ds)

  -- a to the n. Shut, since an exponent may be a large number.
  unfoldable pub pow : K → ℕ → K
  pow a zero = 𝟙
  pow a (suc n) = a ⊗ pow a n

  -- f is a polynomial function of degree at most d: some list of at most d + 1 coefficients gives its value at every point.
  pub record PolyFn (d : ℕ) (f : K → K) : Type 0 where
    pub coeffs : List K
    pub bound : length coeffs ≤ suc d
    pub value : (x : K) → f x ≡ eval_poly coeffs x
