-- Laws of powers, and a polynomial's value as the sum of its terms.
-- Assumes nothing.
use mathlib.Core.Path.{◌≡◌, refl, sym, ◌∙◌, ap, ap₂}
use mathlib.Core.List.{List, [], ◌∷◌}
use Prim.Native.Nat.{ℕ, zero, suc, ◌+◌, ◌*◌, ◌^◌}
use native.Mathlib.Nat.{add-suc, add-zero as nat-add-zero, mul-suc, mul-zero as nat-mul-zero, pow-succ'}
use native.Mathlib.Omega.{arith}
use lib.ListN.{length, get_or}
use Rattle.algebra.specs.Ring.{CommRing}
use Rattle.algebra.specs.Sums.{sum_to}
use Rattle.algebra.specs.Polynomial.{eval_poly, pow, PolyFn}
use Rattle.algebra.proofs.Solver.{x₀, x₁, x₂, ◌:*◌, ring-eq}
use Rattle.algebra.proofs.SumLaws.{sum_to-scale, sum_to-cong, sum_to-first}
use Rattle.algebra.proofs.PolynomialLaws.{PolyFn-const, PolyFn-id, PolyFn-weaken, PolyFn-mul}

module _ (R : CommRing) where
  open R use {carrier as K, zero as 𝟘, one as 𝟙, add as ◌⊕◌, mul as ◌⊗◌, mul-one}

  infixl 60 ◌⊕◌
  infixl 70 ◌⊗◌
  pub pow-zero : (a : K) → pow R a 0 ≡ 𝟙
  unfolding pow
  pow-zero a = refl

  pub pow-suc : (a : K) (n : ℕ) → pow R a (suc n) ≡ a ⊗ pow R a n
  unfolding pow
  pow-suc a n = refl

  pub pow-add : (a : K) (m n : ℕ) → pow R a (m + n) ≡ pow R a m ⊗ pow R a n
  unfolding pow
  pow-add a m zero = rw nat-add-zero (sym (mul-one (pow R a m)))
  pow-add a m (suc n) = ap (pow R a) (add-suc m n) ∙ ap (λ (y : K). a ⊗ y) (pow-add a m n) ∙ (ring-eq R (a ∷ pow R a m ∷ pow R a n ∷ []) (x₀ :* (x₁ :* x₂)) (x₁ :* (x₀ :* x₂)) tt)

  pub pow-mul : (a : K) (m n : ℕ) → pow R a (m * n) ≡ pow R (pow R a m) n
  unfolding pow
  pow-mul a m zero = rw nat-mul-zero
  pow-mul a m (suc n) = rw (mul-suc, pow-add a (m * n) m, pow-mul a m n) (ring-eq R (pow R a m ∷ pow R (pow R a m) n ∷ []) (x₁ :* x₀) (x₀ :* x₁) tt)

  -- The square of the square of .., n times.
  abbrev pub squarings : ℕ → K → K
  squarings zero a = a
  squarings (suc n) a = squarings n (a ⊗ a)

  pub pow-two : (a : K) → pow R a 2 ≡ a ⊗ a
  unfolding pow
  pow-two a = ap (λ (x : K). a ⊗ x) (mul-one a)

  pub pow-squarings : (n : ℕ) (a : K) → pow R a (2 ^ n) ≡ squarings n a
  pow-squarings zero a = pow-suc a 0 ∙ ap (λ (x : K). a ⊗ x) (pow-zero a) ∙ mul-one a
  pow-squarings (suc n) a = ap (pow R a) (pow-succ' 2 n) ∙ pow-mul a 2 (2 ^ n) ∙ ap (λ (x : K). pow R x (2 ^ n)) (pow-two a) ∙ pow-squarings n (a ⊗ a)

  -- The value at x is the sum of c_j x^j.
  pub eval_poly-sum : (cs : List K) (x : K) → eval_poly R cs x ≡ sum_to R (length cs) (λ j. get_or cs j 𝟘 ⊗ pow R x j)
  unfolding pow
  eval_poly-sum [] x = refl
  eval_poly-sum (c ∷ cs) x = ap (λ (y : K). c ⊕ x ⊗ y) (eval_poly-sum cs x)
      ∙ ap₂ (λ (y z : K). y ⊕ z) (sym (mul-one c))
      (sym (sum_to-scale R (length cs) x (λ j. get_or cs j 𝟘 ⊗ pow R x j))
      ∙ sum_to-cong R (length cs) (λ j. x ⊗ (get_or cs j 𝟘 ⊗ pow R x j)) (λ j. get_or cs j 𝟘 ⊗ (x ⊗ pow R x j))
      (λ j l. ring-eq R (x ∷ get_or cs j 𝟘 ∷ pow R x j ∷ []) (x₀ :* (x₁ :* x₂)) (x₁ :* (x₀ :* x₂)) tt))
      ∙ sym (sum_to-first R (length cs) (λ j. get_or (c ∷ cs) j 𝟘 ⊗ pow R x j))

  pub PolyFn-pow : (n : ℕ) → PolyFn R n (λ x. pow R x n)
  unfolding pow
  PolyFn-pow zero = PolyFn-const R 𝟙 0
  PolyFn-pow (suc n) = PolyFn-weaken R (suc n) (omega arith) (PolyFn-mul R (PolyFn-id R 0) (PolyFn-pow n))
