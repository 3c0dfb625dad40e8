-- A product and a sum of elements that a loop makes, a factor or a term a turn.
use mathlib.Core.Path.{◌≡◌, sym, ap, ap₂, ◌∙◌}
use Prim.Native.Nat.{ℕ, ◌+◌}
use native.Mathlib.Numerals.{add-one}
use Rattle.algebra.specs.Sums.{sum_to, prod_to}
use Rattle.field.specs.BabyBear.{R, F, val, ofℕ, ◌⊕◌, ◌⊗◌}
use Rattle.field.proofs.Laws.{val-zero, val-one, ofℕ-of}

module _ (f : ℕ → F) where
  pub product-none : 1 ≡ val (prod_to R 0 f)
  product-none = sym val-one

  pub product-more : (i product x next : ℕ) → product ≡ val (prod_to R i f) → x ≡ val (f i) → next ≡ val (ofℕ product ⊗ ofℕ x) → next ≡ val (prod_to R (i + 1) f)
  product-more i product x next e h n = n ∙ ap₂ (λ (a b : F). val (a ⊗ b)) (ofℕ-of (prod_to R i f) e) (ofℕ-of (f i) h) ∙ ap (λ (k : ℕ). val (prod_to R k f)) (sym (add-one i))

  pub product-all : {product : ℕ} (i n : ℕ) → i ≡ n → product ≡ val (prod_to R i f) → product ≡ val (prod_to R n f)
  product-all i n e h = h ∙ ap (λ (k : ℕ). val (prod_to R k f)) e

  pub sum-none : 0 ≡ val (sum_to R 0 f)
  sum-none = sym val-zero

  pub sum_more : (i sum x next : ℕ) → sum ≡ val (sum_to R i f) → x ≡ val (f i) → next ≡ val (ofℕ sum ⊕ ofℕ x) → next ≡ val (sum_to R (i + 1) f)
  sum_more i sum x next e h n = n ∙ ap₂ (λ (a b : F). val (a ⊕ b)) (ofℕ-of (sum_to R i f) e) (ofℕ-of (f i) h) ∙ ap (λ (k : ℕ). val (sum_to R k f)) (sym (add-one i))

  pub sum-all : {sum : ℕ} (i n : ℕ) → i ≡ n → sum ≡ val (sum_to R i f) → sum ≡ val (sum_to R n f)
  sum-all i n e h = h ∙ ap (λ (k : ℕ). val (sum_to R k f)) e
