-- Laws of sums and products over the numbers below n.
-- Assumes nothing.
use mathlib.Core.Path.{◌≡◌, refl, sym, ◌∙◌, ap, ap₂}
use mathlib.Core.Logic.{◌≢◌}
use mathlib.Core.List.{[], ◌∷◌}
use Prim.Native.Nat.{ℕ, zero, suc, ◌<◌}
use native.Mathlib.Omega.{arith}
use native.Mathlib.Decide.{ℕ_discrete}
use Rattle.algebra.specs.Ring.{CommRing}
use Rattle.algebra.specs.Sums.{sum_to, prod_to}
use Rattle.algebra.proofs.RingLaws.{zero-add, mul-zero}
use Rattle.algebra.proofs.Solver.{x₀, x₁, x₂, x₃, ◌:+◌, ◌:*◌, num, ring-eq}

module _ (R : CommRing) where
  open R use {carrier as K, zero as 𝟘, one as 𝟙, add as ◌⊕◌, mul as ◌⊗◌, add_assoc, add-zero, mul-one}

  infixl 60 ◌⊕◌
  infixl 70 ◌⊗◌
  pub sum_to-cong : (n : ℕ) (f g : ℕ → K) → ((i : ℕ) → i < n → f i ≡ g i) → sum_to R n f ≡ sum_to R n g
  sum_to-cong zero f g h = refl
  sum_to-cong (suc n) f g h = ap₂ ◌⊕◌ (sum_to-cong n f g (λ i l. h i (omega arith))) (h n (omega arith))

  pub prod_to-cong : (n : ℕ) (f g : ℕ → K) → ((i : ℕ) → i < n → f i ≡ g i) → prod_to R n f ≡ prod_to R n g
  prod_to-cong zero f g h = refl
  prod_to-cong (suc n) f g h = ap₂ ◌⊗◌ (prod_to-cong n f g (λ i l. h i (omega arith))) (h n (omega arith))

  pub sum_to-zero : (n : ℕ) → sum_to R n (λ i. 𝟘) ≡ 𝟘
  sum_to-zero zero = refl
  sum_to-zero (suc n) = ap (λ (y : K). y ⊕ 𝟘) (sum_to-zero n) ∙ add-zero 𝟘

  pub prod_to-one : (n : ℕ) → prod_to R n (λ i. 𝟙) ≡ 𝟙
  prod_to-one zero = refl
  prod_to-one (suc n) = ap (λ (y : K). y ⊗ 𝟙) (prod_to-one n) ∙ mul-one 𝟙

  pub sum_to-add : (n : ℕ) (f g : ℕ → K) → sum_to R n (λ i. f i ⊕ g i) ≡ sum_to R n f ⊕ sum_to R n g
  sum_to-add zero f g = sym (add-zero 𝟘)
  sum_to-add (suc n) f g = ap (λ (y : K). y ⊕ (f n ⊕ g n)) (sum_to-add n f g)
      ∙ ring-eq R (sum_to R n f ∷ sum_to R n g ∷ f n ∷ g n ∷ []) ((x₀ :+ x₁) :+ (x₂ :+ x₃)) ((x₀ :+ x₂) :+ (x₁ :+ x₃)) tt

  pub sum_to-scale : (n : ℕ) (a : K) (f : ℕ → K) → sum_to R n (λ i. a ⊗ f i) ≡ a ⊗ sum_to R n f
  sum_to-scale zero a f = sym (mul-zero R a)
  sum_to-scale (suc n) a f = ap (λ (y : K). y ⊕ a ⊗ f n) (sum_to-scale n a f)
      ∙ ring-eq R (a ∷ sum_to R n f ∷ f n ∷ []) (x₀ :* x₁ :+ x₀ :* x₂) (x₀ :* (x₁ :+ x₂)) tt

  pub sum_to-swap : (m n : ℕ) (f : ℕ → ℕ → K) → sum_to R m (λ i. sum_to R n (λ j. f i j)) ≡ sum_to R n (λ j. sum_to R m (λ i. f i j))
  sum_to-swap zero n f = sym (sum_to-zero n)
  sum_to-swap (suc m) n f = ap (λ (y : K). y ⊕ sum_to R n (λ j. f m j)) (sum_to-swap m n f)
      ∙ sym (sum_to-add n (λ j. sum_to R m (λ i. f i j)) (λ j. f m j))

  -- A sum with one term that may differ from zero is that term.
  pub sum_to-single : (n : ℕ) (f : ℕ → K) (j : ℕ) → j < n → ((i : ℕ) → i < n → i ≢ j → f i ≡ 𝟘) → sum_to R n f ≡ f j
  sum_to-single zero f j l h = absurd (omega arith)
  sum_to-single (suc n) f j l h = go (ℕ_discrete j n) (sum_to-single n f j)
    where
      go : Dec (j ≡ n) → (j < n → ((i : ℕ) → i < n → i ≢ j → f i ≡ 𝟘) → sum_to R n f ≡ f j) → sum_to R n f ⊕ f n ≡ f j
      go (yes e) ih = ap₂ ◌⊕◌ (sum_to-cong n f (λ i. 𝟘) (λ i k. h i (omega arith) (omega arith)) ∙ sum_to-zero n) (ap f (sym e)) ∙ zero-add R (f j)
      go (no e) ih = ap₂ ◌⊕◌ (ih (omega arith) (λ i k. h i (omega arith))) (h n (omega arith) (λ z. e (sym z))) ∙ add-zero (f j)

  -- A product with a factor zero is zero.
  pub prod_to-zero : (n : ℕ) (f : ℕ → K) (j : ℕ) → j < n → f j ≡ 𝟘 → prod_to R n f ≡ 𝟘
  prod_to-zero zero f j l h = absurd (omega arith)
  prod_to-zero (suc n) f j l h = go (ℕ_discrete j n) (prod_to-zero n f j)
    where
      go : Dec (j ≡ n) → (j < n → f j ≡ 𝟘 → prod_to R n f ≡ 𝟘) → prod_to R n f ⊗ f n ≡ 𝟘
      go (yes e) ih = ap (λ (y : K). prod_to R n f ⊗ y) (ap f (sym e) ∙ h) ∙ mul-zero R (prod_to R n f)
      go (no e) ih = ap (λ (y : K). y ⊗ f n) (ih (omega arith) h) ∙ ring-eq R (f n ∷ []) (num 0 :* x₀) (num 0) tt

  -- A sum's first term in front.
  pub sum_to-first : (n : ℕ) (f : ℕ → K) → sum_to R (suc n) f ≡ f 0 ⊕ sum_to R n (λ i. f (suc i))
  sum_to-first zero f = zero-add R (f 0) ∙ sym (add-zero (f 0))
  sum_to-first (suc n) f = ap (λ (y : K). y ⊕ f (suc n)) (sum_to-first n f) ∙ add_assoc (f 0) (sum_to R n (λ i. f (suc i))) (f (suc n))
