-- The halving law over any commutative ring: the value at x of a polynomial is that of its even part at x² plus x times that of its odd part, and
-- the squares of the points g^i are the points of g². Where g^n is -1, points n + i and i are opposites, so that the values of both parts at n points
-- give those of the whole at 2n.
-- Assumes nothing.
use mathlib.Core.Path.{◌≡◌, refl, sym, ◌∙◌, ap, ap₂}
use mathlib.Core.List.{List, [], ◌∷◌, ◌++◌}
use Prim.Native.Nat.{ℕ, zero, suc, ◌+◌, ◌<◌}
use native.Mathlib.Omega.{arith}
use Rattle.algebra.specs.Ring.{CommRing}
use Rattle.algebra.specs.Lists.{build}
use Rattle.algebra.specs.Polynomial.{eval_poly, pow}
use Rattle.algebra.specs.Halving.{even_part, odd_part, joined}
use Rattle.algebra.proofs.Solver.{x₀, x₁, x₂, x₃, x₄, num, ◌:+◌, ◌:*◌, :-◌, ring-eq}
use Rattle.algebra.proofs.ListLaws.{build-cong, build-append}
use Rattle.algebra.proofs.PowerLaws.{pow-add}

-- ---- the parts of a list that is made from a function of the index

twice : (n : ℕ) → suc n + suc n ≡ suc (suc (n + n))
twice n = omega arith

pub even_part-build : {A : Type 0} (n : ℕ) (f : ℕ → A) → even_part (build (n + n) f) ≡ build n (λ i. f (i + i))
even_part-build zero f = refl
even_part-build {A} (suc n) f = ap (λ (m : ℕ). even_part (build m f)) (twice n)
    ∙ ap (λ (l : List A). f 0 ∷ l) (even_part-build n (λ i. f (suc (suc i))) ∙ build-cong n (λ i. f (suc (suc (i + i)))) (λ i. f (suc i + suc i)) (λ i h. ap f (sym (twice i))))

pub odd_part-build : {A : Type 0} (n : ℕ) (f : ℕ → A) → odd_part (build (n + n) f) ≡ build n (λ i. f (suc (i + i)))
odd_part-build zero f = refl
odd_part-build {A} (suc n) f = ap (λ (m : ℕ). odd_part (build m f)) (twice n)
    ∙ ap (λ (l : List A). f 1 ∷ l) (odd_part-build n (λ i. f (suc (suc i))) ∙ build-cong n (λ i. f (suc (suc (suc (i + i))))) (λ i. f (suc (suc i + suc i))) (λ i h. ap (λ (j : ℕ). f (suc j)) (sym (twice i))))

module _ (R : CommRing) where
  open R use {carrier as K, one as 𝟙, add as ◌⊕◌, mul as ◌⊗◌, neg as ⊝◌}

  infixl 60 ◌⊕◌
  infixl 70 ◌⊗◌
  infixl 80 ⊝◌
  -- ---- the value at x

  pub value-halves : (w : List K) (x : K) → eval_poly R w x ≡ eval_poly R (even_part w) (x ⊗ x) ⊕ x ⊗ eval_poly R (odd_part w) (x ⊗ x)
  value-halves [] x = ring-eq R (x ∷ []) (num 0) (num 0 :+ x₀ :* num 0) tt
  value-halves (a ∷ []) x = ring-eq R (x ∷ a ∷ []) (x₁ :+ x₀ :* num 0) (x₁ :+ x₀ :* x₀ :* num 0 :+ x₀ :* num 0) tt
  value-halves (a ∷ b ∷ w) x =
      ap (λ (y : K). a ⊕ x ⊗ (b ⊕ x ⊗ y)) (value-halves w x)
      ∙ ring-eq R (x ∷ a ∷ b ∷ eval_poly R (even_part w) (x ⊗ x) ∷ eval_poly R (odd_part w) (x ⊗ x) ∷ [])
      (x₁ :+ x₀ :* (x₂ :+ x₀ :* (x₃ :+ x₀ :* x₄))) (x₁ :+ x₀ :* x₀ :* x₃ :+ x₀ :* (x₂ :+ x₀ :* x₀ :* x₄)) tt

  -- ---- the points

  pub square-point : (g : K) (i : ℕ) → pow R (g ⊗ g) i ≡ pow R g i ⊗ pow R g i
  unfolding pow
  square-point g zero = ring-eq R [] (num 1) (num 1 :* num 1) tt
  square-point g (suc i) = ap (λ (y : K). g ⊗ g ⊗ y) (square-point g i) ∙ ring-eq R (g ∷ pow R g i ∷ []) (x₀ :* x₀ :* (x₁ :* x₁)) (x₀ :* x₁ :* (x₀ :* x₁)) tt

  module _ (g : K) (n : ℕ) (turn : pow R g n ≡ ⊝ 𝟙) where
    opposite-point : (i : ℕ) → pow R g (n + i) ≡ ⊝ pow R g i
    opposite-point i = pow-add R g n i ∙ ap (λ (y : K). y ⊗ pow R g i) turn ∙ ring-eq R (pow R g i ∷ []) (:- num 1 :* x₀) (:- x₀) tt

    -- ---- the values at 2n points

    module _ (w : List K) where
      abbrev even : ℕ → K
      even i = eval_poly R (even_part w) (pow R (g ⊗ g) i)

      abbrev odd : ℕ → K
      odd i = eval_poly R (odd_part w) (pow R (g ⊗ g) i)

      -- At a point x whose square is the square of point i.
      at-root : (x : K) (i : ℕ) → x ⊗ x ≡ pow R (g ⊗ g) i → eval_poly R w x ≡ even i ⊕ x ⊗ odd i
      at-root x i e = value-halves w x ∙ ap (λ (y : K). eval_poly R (even_part w) y ⊕ x ⊗ eval_poly R (odd_part w) y) e

      lower : (i : ℕ) → eval_poly R w (pow R g i) ≡ even i ⊕ pow R g i ⊗ odd i
      lower i = at-root (pow R g i) i (sym (square-point g i))

      upper : (i : ℕ) → eval_poly R w (pow R g (n + i)) ≡ even i ⊕ ⊝ (pow R g i ⊗ odd i)
      upper i = ap (eval_poly R w) (opposite-point i)
          ∙ at-root (⊝ pow R g i) i (ring-eq R (pow R g i ∷ []) (:- x₀ :* :- x₀) (x₀ :* x₀) tt ∙ sym (square-point g i))
          ∙ ring-eq R (even i ∷ pow R g i ∷ odd i ∷ []) (x₀ :+ :- x₁ :* x₂) (x₀ :+ :- (x₁ :* x₂)) tt

      pub halving : build (n + n) (λ i. eval_poly R w (pow R g i)) ≡ joined R n (pow R g) even odd
      halving = build-append n n (λ i. eval_poly R w (pow R g i))
          ∙ ap₂ (λ (s t : List K). s ++ t) (build-cong n (λ i. eval_poly R w (pow R g i)) (λ i. even i ⊕ pow R g i ⊗ odd i) (λ i h. lower i))
          (build-cong n (λ i. eval_poly R w (pow R g (n + i))) (λ i. even i ⊕ ⊝ (pow R g i ⊗ odd i)) (λ i h. upper i))

  -- ---- equal values

  pub joined-cong : (n : ℕ) {x y e f o q : ℕ → K} → ((i : ℕ) → i < n → x i ≡ y i) → ((i : ℕ) → i < n → e i ≡ f i) → ((i : ℕ) → i < n → o i ≡ q i)
      → joined R n x e o ≡ joined R n y f q
  joined-cong n {x} {y} {e} {f} {o} {q} hx he ho = ap₂ (λ (s t : List K). s ++ t)
      (build-cong n (λ i. e i ⊕ x i ⊗ o i) (λ i. f i ⊕ y i ⊗ q i) (λ i h. ap₂ (λ (a b : K). a ⊕ b) (he i h) (ap₂ (λ (a b : K). a ⊗ b) (hx i h) (ho i h))))
      (build-cong n (λ i. e i ⊕ ⊝ (x i ⊗ o i)) (λ i. f i ⊕ ⊝ (y i ⊗ q i)) (λ i h. ap₂ (λ (a b : K). a ⊕ ⊝ b) (he i h) (ap₂ (λ (a b : K). a ⊗ b) (hx i h) (ho i h))))
