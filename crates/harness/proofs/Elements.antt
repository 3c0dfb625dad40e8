-- Sums, differences and products of what calls promise of their results, one step or n of them.
use mathlib.Core.Path.{◌≡◌, sym, ap, ap₂, ◌∙◌}
use Prim.Native.Nat.{ℕ, ◌+◌}
use native.Mathlib.Numerals.{add-one}
use Rattle.algebra.specs.Polynomial.{pow}
use Rattle.algebra.proofs.PowerLaws.{pow-zero, pow-suc}
use Rattle.algebra.proofs.RingLaws.{zero-mul, one-mul, add-mul}
use Rattle.field.specs.BabyBear.{R, F, val, ofℕ, 𝟙, ◌⊕◌, ◌⊖◌, ◌⊗◌}
use Rattle.field.proofs.Laws.{ofℕ-of, ofℕ-zero, ofℕ-suc}

-- The operands a' and b' are the numbers of the elements a and b.
module _ {a' b' r : ℕ} (a b : F) (at_a : a' ≡ val a) (at_b : b' ≡ val b) where
  pub sum_of : r ≡ val (ofℕ a' ⊕ ofℕ b') → r ≡ val (a ⊕ b)
  sum_of e = e ∙ ap₂ (λ (x y : F). val (x ⊕ y)) (ofℕ-of a at_a) (ofℕ-of b at_b)

  pub difference-of : r ≡ val (ofℕ a' ⊖ ofℕ b') → r ≡ val (a ⊖ b)
  difference-of e = e ∙ ap₂ (λ (x y : F). val (x ⊖ y)) (ofℕ-of a at_a) (ofℕ-of b at_b)

-- ---- x times y n times over

pub product-none : (x y : F) → x ≡ x ⊗ pow R y 0
product-none x y = sym (ap (λ (z : F). x ⊗ z) (pow-zero R y) ∙ R.mul-one x)

pub product-next : (x y : F) (i : ℕ) {acc r : ℕ} → acc ≡ val (x ⊗ pow R y i) → r ≡ val (ofℕ acc ⊗ y) → r ≡ val (x ⊗ pow R y (i + 1))
product-next x y i h e =
    e ∙ ap val (ap (λ (z : F). z ⊗ y) (ofℕ-of (x ⊗ pow R y i) h) ∙ R.mul_assoc x (pow R y i) y ∙ ap (λ (z : F). x ⊗ z) once_more)
  where
    once_more : pow R y i ⊗ y ≡ pow R y (i + 1)
    once_more = R.mul_comm (pow R y i) y ∙ sym (ap (pow R y) (add-one i) ∙ pow-suc R y i)

-- ---- x plus y n times over

pub sum-none : (x y : F) → x ≡ x ⊕ ofℕ 0 ⊗ y
sum-none x y = sym (ap (λ (z : F). x ⊕ z ⊗ y) ofℕ-zero ∙ ap (λ (z : F). x ⊕ z) (zero-mul R y) ∙ R.add-zero x)

pub sum-next : (x y : F) (i : ℕ) {acc step r : ℕ} → acc ≡ val (x ⊕ ofℕ i ⊗ y) → step ≡ val y → r ≡ val (ofℕ acc ⊕ ofℕ step) → r ≡ val (x ⊕ ofℕ (i + 1) ⊗ y)
sum-next x y i h s e = sum_of (x ⊕ ofℕ i ⊗ y) y h s e ∙ ap val (R.add_assoc x (ofℕ i ⊗ y) y ∙ ap (λ (z : F). x ⊕ z) (sym once_more))
  where
    once_more : ofℕ (i + 1) ⊗ y ≡ ofℕ i ⊗ y ⊕ y
    once_more = ap (λ (z : F). z ⊗ y) (ap ofℕ (add-one i) ∙ ofℕ-suc i) ∙ add-mul R (ofℕ i) 𝟙 y ∙ ap (λ (z : F). ofℕ i ⊗ y ⊕ z) (one-mul R y)
