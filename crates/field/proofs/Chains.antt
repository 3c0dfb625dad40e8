-- An operation's promise where its operands are already the numbers of elements: the results of other operations.
-- With a ≡ val x and b ≡ val y, the promise r ≡ val (ofℕ a ⊕ ofℕ b) says r ≡ val (x ⊕ y).
-- Assumes nothing.
use mathlib.Core.Path.{◌≡◌, ap₂, ◌∙◌}
use Prim.Native.Nat.{ℕ}
use Rattle.field.specs.BabyBear.{F, val, ofℕ, ◌⊕◌, ◌⊖◌, ◌⊗◌}
use Rattle.field.proofs.Laws.{ofℕ-of}

module _ {a b r : ℕ} (x y : F) (is : a ≡ val x) (is' : b ≡ val y) where
  pub sum_of : r ≡ val (ofℕ a ⊕ ofℕ b) → r ≡ val (x ⊕ y)
  sum_of e = e ∙ ap₂ (λ (u v : F). val (u ⊕ v)) (ofℕ-of x is) (ofℕ-of y is')

  pub difference-of : r ≡ val (ofℕ a ⊖ ofℕ b) → r ≡ val (x ⊖ y)
  difference-of e = e ∙ ap₂ (λ (u v : F). val (u ⊖ v)) (ofℕ-of x is) (ofℕ-of y is')

  pub product-of : r ≡ val (ofℕ a ⊗ ofℕ b) → r ≡ val (x ⊗ y)
  product-of e = e ∙ ap₂ (λ (u v : F). val (u ⊗ v)) (ofℕ-of x is) (ofℕ-of y is')
