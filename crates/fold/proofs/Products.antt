-- Laws of products in a ring and in a field: over a list that is made from a function, and of inverses.
use mathlib.Core.Path.{◌≡◌, refl, sym, ap, ◌∙◌}
use mathlib.Core.Logic.{◌≢◌}
use mathlib.Core.List.{[], ◌∷◌}
use Prim.Native.Nat.{ℕ, zero, suc, ◌<◌}
use Rattle.algebra.specs.Ring.{CommRing, Field}
use Rattle.algebra.specs.Lists.{build}
use Rattle.algebra.specs.Sums.{prod_to, prod}
use Rattle.algebra.proofs.Solver.{x₀, x₁, x₂, x₃, ◌:*◌, num, ring-eq}
use Rattle.algebra.proofs.SumLaws.{prod_to-cong, prod_to-one}
use Rattle.algebra.proofs.FieldLaws.{inv_unique}

module _ (R : CommRing) where
  open R use {carrier as K, one as 𝟙, mul as ◌⊗◌, mul_assoc}

  infixl 70 ◌⊗◌
  -- A product's first factor in front.
  prod_to-first : (n : ℕ) (f : ℕ → K) → prod_to R (suc n) f ≡ f 0 ⊗ prod_to R n (λ i. f (suc i))
  prod_to-first zero f = ring-eq R (f 0 ∷ []) (num 1 :* x₀) (x₀ :* num 1) tt
  prod_to-first (suc n) f = ap (λ (y : K). y ⊗ f (suc n)) (prod_to-first n f) ∙ mul_assoc (f 0) (prod_to R n (λ i. f (suc i))) (f (suc n))

  -- The product over the members f 0 to f (n - 1) of a list.
  pub prod-build : {A : Type 0} (g : A → K) (n : ℕ) (f : ℕ → A) → prod R g (build n f) ≡ prod_to R n (λ i. g (f i))
  prod-build g zero f = refl
  prod-build g (suc n) f = ap (λ (y : K). g (f 0) ⊗ y) (prod-build g n (λ i. f (suc i))) ∙ sym (prod_to-first n (λ i. g (f i)))

  prod_to-mul : (n : ℕ) (f g : ℕ → K) → prod_to R n f ⊗ prod_to R n g ≡ prod_to R n (λ i. f i ⊗ g i)
  prod_to-mul zero f g = ring-eq R [] (num 1 :* num 1) (num 1) tt
  prod_to-mul (suc n) f g = ring-eq R (prod_to R n f ∷ f n ∷ prod_to R n g ∷ g n ∷ []) ((x₀ :* x₁) :* (x₂ :* x₃)) ((x₀ :* x₂) :* (x₁ :* x₃)) tt
      ∙ ap (λ (y : K). y ⊗ (f n ⊗ g n)) (prod_to-mul n f g)

module _ (F : Field) where
  open F use {ring as R, inv, mul-inv}
  open R use {carrier as K, zero as 𝟘, one as 𝟙, mul as ◌⊗◌}

  infixl 70 ◌⊗◌
  -- The inverse of a product is the product of the inverses.
  pub prod_to-inv : (n : ℕ) (f : ℕ → K) → ((i : ℕ) → i < n → f i ≢ 𝟘) → inv (prod_to R n f) ≡ prod_to R n (λ i. inv (f i))
  prod_to-inv n f h = inv_unique F (prod_to R n f) (prod_to R n (λ i. inv (f i)))
      (prod_to-mul R n f (λ i. inv (f i)) ∙ prod_to-cong R n (λ i. f i ⊗ inv (f i)) (λ i. 𝟙) (λ i l. mul-inv (f i) (h i l)) ∙ prod_to-one R n)
