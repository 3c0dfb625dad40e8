-- A witness's value at a point is its polynomial's; the values of a codeword; and both are linear in the witness.
-- Assumes nothing.
use mathlib.Core.Path.{◌≡◌, sym, ◌∙◌, ap}
use mathlib.Core.List.{List, [], ◌∷◌}
use Prim.Native.Nat.{ℕ, ◌<◌}
use lib.ListN.{length, get_or, length-map}
use Rattle.algebra.specs.Ring.{CommRing}
use Rattle.algebra.specs.Lists.{build}
use Rattle.algebra.specs.Sums.{sum_to}
use Rattle.algebra.specs.Polynomial.{eval_poly, pow}
use Rattle.algebra.proofs.Solver.{x₀, x₁, x₂, ◌:*◌, ring-eq}
use Rattle.algebra.proofs.ListLaws.{length-build, get_or-build, get_or-map}
use Rattle.algebra.proofs.SumLaws.{sum_to-cong, sum_to-scale, sum_to-swap}
use Rattle.algebra.proofs.PowerLaws.{eval_poly-sum}
use Rattle.code.specs.Codeword.{value_at, codeword}

module _ (R : CommRing) where
  open R use {carrier as K, zero as 𝟘, mul as ◌⊗◌}

  infixl 70 ◌⊗◌
  pub value_at-eval_poly : (w : List K) (x : K) → value_at R w x ≡ eval_poly R w x
  unfolding value_at
  value_at-eval_poly w x = sym (eval_poly-sum R w x)

  pub codeword-length : (points w : List K) → length (codeword R points w) ≡ length points
  unfolding codeword
  codeword-length points w = length-map points (value_at R w)

  pub codeword-at : (points w : List K) (q : ℕ) → q < length points → get_or (codeword R points w) q 𝟘 ≡ value_at R w (get_or points q 𝟘)
  unfolding codeword
  codeword-at points w q h = get_or-map (value_at R w) points q 𝟘 𝟘 h

  -- The sum of b i times number j of witness i, for each j below k.
  abbrev pub combination : ℕ → ℕ → (ℕ → K) → (ℕ → List K) → List K
  combination k l b ws = build k (λ j. sum_to R l (λ i. b i ⊗ get_or (ws i) j 𝟘))

  module _ (k l : ℕ) (b : ℕ → K) (ws : ℕ → List K) (sized : (i : ℕ) → i < l → length (ws i) ≡ k) where
    term : (x : K) (j : ℕ) → j < k → get_or (combination k l b ws) j 𝟘 ⊗ pow R x j ≡ sum_to R l (λ i. b i ⊗ (get_or (ws i) j 𝟘 ⊗ pow R x j))
    term x j h = ap (λ (y : K). y ⊗ pow R x j) (get_or-build k (λ j. sum_to R l (λ i. b i ⊗ get_or (ws i) j 𝟘)) j 𝟘 h)
        ∙ R.mul_comm (sum_to R l (λ i. b i ⊗ get_or (ws i) j 𝟘)) (pow R x j)
        ∙ sym (sum_to-scale R l (pow R x j) (λ i. b i ⊗ get_or (ws i) j 𝟘))
        ∙ sum_to-cong R l (λ i. pow R x j ⊗ (b i ⊗ get_or (ws i) j 𝟘)) (λ i. b i ⊗ (get_or (ws i) j 𝟘 ⊗ pow R x j))
        (λ i p. ring-eq R (pow R x j ∷ b i ∷ get_or (ws i) j 𝟘 ∷ []) (x₀ :* (x₁ :* x₂)) (x₁ :* (x₂ :* x₀)) tt)

    -- The value of a combination of witnesses is the combination of their values.
    pub value_at-linear : (x : K) → value_at R (combination k l b ws) x ≡ sum_to R l (λ i. b i ⊗ value_at R (ws i) x)
    unfolding value_at
    value_at-linear x = ap (λ (n : ℕ). sum_to R n (λ j. get_or (combination k l b ws) j 𝟘 ⊗ pow R x j)) (length-build k (λ j. sum_to R l (λ i. b i ⊗ get_or (ws i) j 𝟘)))
        ∙ sum_to-cong R k (λ j. get_or (combination k l b ws) j 𝟘 ⊗ pow R x j) (λ j. sum_to R l (λ i. b i ⊗ (get_or (ws i) j 𝟘 ⊗ pow R x j))) (term x)
        ∙ sum_to-swap R k l (λ j i. b i ⊗ (get_or (ws i) j 𝟘 ⊗ pow R x j))
        ∙ sum_to-cong R l (λ i. sum_to R k (λ j. b i ⊗ (get_or (ws i) j 𝟘 ⊗ pow R x j))) (λ i. b i ⊗ sum_to R (length (ws i)) (λ j. get_or (ws i) j 𝟘 ⊗ pow R x j))
        (λ i p. sum_to-scale R k (b i) (λ j. get_or (ws i) j 𝟘 ⊗ pow R x j) ∙ ap (λ (n : ℕ). b i ⊗ sum_to R n (λ j. get_or (ws i) j 𝟘 ⊗ pow R x j)) (sym (sized i p)))

    -- The codeword of a combination is, at each position, the combination of the codewords.
    pub codeword-linear : (points : List K) (q : ℕ) → q < length points
        → get_or (codeword R points (combination k l b ws)) q 𝟘 ≡ sum_to R l (λ i. b i ⊗ get_or (codeword R points (ws i)) q 𝟘)
    codeword-linear points q h = codeword-at points (combination k l b ws) q h ∙ value_at-linear (get_or points q 𝟘)
        ∙ sum_to-cong R l (λ i. b i ⊗ value_at R (ws i) (get_or points q 𝟘)) (λ i. b i ⊗ get_or (codeword R points (ws i)) q 𝟘)
        (λ i p. ap (λ (y : K). b i ⊗ y) (sym (codeword-at points (ws i) q h)))
