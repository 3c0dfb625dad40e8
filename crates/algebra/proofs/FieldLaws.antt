-- Laws of fields: cancelling a factor, and the inverse.
-- Assumes nothing.
use mathlib.Core.Path.{◌≡◌, sym, ◌∙◌, ap}
use mathlib.Core.Logic.{◌≢◌}
use mathlib.Core.List.{[], ◌∷◌}
use Rattle.algebra.specs.Ring.{Field}
use Rattle.algebra.proofs.RingLaws.{mul-zero, eq-of-sub}
use Rattle.algebra.proofs.Solver.{x₀, x₁, x₂, ◌:*◌, ◌:-◌, :-◌, num, ring-eq, ring-from}

module _ (F : Field) where
  open F use {ring as R, one≢zero, inv, mul-inv}
  open R use {carrier as K, zero as 𝟘, one as 𝟙, add as ◌⊕◌, mul as ◌⊗◌, neg as ⊝◌, add-neg}

  infixl 60 ◌⊕◌
  infixl 70 ◌⊗◌
  infixl 80 ⊝◌
  -- A product is zero only if a factor is.
  pub cancel-factor : (a b : K) → a ≢ 𝟘 → a ⊗ b ≡ 𝟘 → b ≡ 𝟘
  cancel-factor a b h e = ring-eq R (b ∷ []) x₀ (num 1 :* x₀) tt
      ∙ ap (λ (x : K). x ⊗ b) (sym (mul-inv a h))
      ∙ ring-eq R (a ∷ inv a ∷ b ∷ []) (x₀ :* x₁ :* x₂) (x₁ :* (x₀ :* x₂)) tt
      ∙ ap (λ (x : K). inv a ⊗ x) e
      ∙ mul-zero R (inv a)

  pub cancel_left : (a b c : K) → a ≢ 𝟘 → a ⊗ b ≡ a ⊗ c → b ≡ c
  cancel_left a b c h e = eq-of-sub R b c (cancel-factor a (b ⊕ ⊝ c) h
      (ring-eq R (a ∷ b ∷ c ∷ []) (x₀ :* (x₁ :- x₂)) (x₀ :* x₁ :- x₀ :* x₂) tt ∙ ap (λ (y : K). y ⊕ ⊝ (a ⊗ c)) e ∙ add-neg (a ⊗ c)))

  -- The inverse is the only element whose product is 1.
  pub inv_unique : (a b : K) → a ⊗ b ≡ 𝟙 → inv a ≡ b
  inv_unique a b h = ring-from R (a ∷ b ∷ inv a ∷ []) x₂ x₁ ((:- x₂, x₀ :* x₁, num 1) ∷ (x₁, x₀ :* x₂, num 1) ∷ []) (h, (mul-inv a nonzero, tt)) tt
    where
      nonzero : a ≢ 𝟘
      nonzero e = one≢zero (sym h ∙ ap (λ (x : K). x ⊗ b) e ∙ ring-eq R (b ∷ []) (num 0 :* x₀) (num 0) tt)
