-- The weight of a row, bit by bit.
-- Assumes nothing.
use mathlib.Core.Path.{◌≡◌, refl, sym, ap, ap₂, ◌∙◌}
use mathlib.Core.List.{List, map}
use Prim.Native.Nat.{ℕ, zero, suc, ◌+◌, ◌/◌, ◌%◌, ◌^◌, ◌<◌}
use native.Mathlib.Nat.{pow-zero, pow-suc, div-div-eq-div-mul, div-one}
use native.Mathlib.Numerals.{add-one}
use lib.ListN.{length, get_or}
use Rattle.algebra.specs.Sums.{prod_to}
use Rattle.algebra.proofs.ListLaws.{get_or-map}
use Rattle.field.specs.BabyBear.{p, R, F, val, ofℕ, 𝟘, ◌⊖◌, ◌⊗◌}
use Rattle.field.proofs.Laws.{val-one, val-small, ofℕ-one}
use Rattle.field.proofs.Chains.{product-of}
use Rattle.theory.specs.R1cs.{bit, bit_weight}

-- The product over the bits below b.
abbrev pub weight_so_far : List ℕ → ℕ → ℕ → F
weight_so_far r j b = prod_to R b (λ i. bit_weight R (bit i j) (get_or (map ofℕ r) i 𝟘))

-- product is the weight's over the bits below b, and rest is what is left of j.
pub record Weighed (r : List ℕ) (j b rest product : ℕ) : Type 0 where
  pub left : rest ≡ j / 2 ^ b
  pub weighed : product ≡ val (weight_so_far r j b)

pub weighed-none : (r : List ℕ) (j : ℕ) → Weighed r j 0 j 1
weighed-none r j = record { left = sym (ap (λ (n : ℕ). j / n) (pow-zero 2) ∙ div-one j); weighed = sym val-one }

module _ {r : List ℕ} {j b rest product : ℕ} (w : Weighed r j b rest product) where
  pub weighed-more : {factor next : ℕ} → b < length r → factor ≡ val (bit_weight R (rest % 2) (ofℕ (get_or r b 0)))
      → next ≡ val (ofℕ product ⊗ ofℕ factor) → Weighed r j (b + 1) (rest / 2) next
  weighed-more {factor} {next} h ef en =
      rw add-one
      (record {
        left = ap (λ (n : ℕ). n / 2) w.left ∙ div-div-eq-div-mul j (2 ^ b) 2 ∙ ap (λ (n : ℕ). j / n) (sym (pow-suc 2 b));
        weighed = product-of (weight_so_far r j b) (bit_weight R (rest % 2) (ofℕ (get_or r b 0))) w.weighed ef en
            ∙ ap₂ (λ (n : ℕ) (x : F). val (weight_so_far r j b ⊗ bit_weight R (n % 2) x)) w.left (sym (get_or-map ofℕ r b 0 𝟘 h));
      })

-- ---- one bit

pub bit-zero : {b result : ℕ} (r : ℕ) → b ≡ 0 → result ≡ val (ofℕ 1 ⊖ ofℕ r) → result ≡ val (bit_weight R b (ofℕ r))
bit-zero r e h = rw e (h ∙ ap (λ (x : F). val (x ⊖ ofℕ r)) ofℕ-one)

pub bit-one : (b : ℕ) {r : ℕ} → (b ≡ 0 → ⊥) → r < p → r ≡ val (bit_weight R b (ofℕ r))
bit-one zero d h = absurd (d refl)
bit-one (suc b) d h = sym (val-small h)
