-- Powers: of a number's element, by half the exponent, and by squaring and multiplying.
-- Assumes nothing.
use mathlib.Core.Path.{◌≡◌, sym, ap, ap₂, ◌∙◌}
use Prim.Native.Nat.{ℕ, zero, suc, ◌*◌, ◌/◌, ◌%◌, ◌^◌, ◌<◌}
use native.Mathlib.Nat.{pow-zero as nat-pow-zero, pow-succ'}
use native.Mathlib.Omega.{arith}
use lib.Dec.{lit<}
use Rattle.algebra.specs.Polynomial.{pow}
use Rattle.algebra.proofs.RingLaws.{one-mul}
use Rattle.algebra.proofs.PowerLaws.{pow-zero, pow-suc, pow-mul, pow-two}
use Rattle.field.specs.BabyBear.{p, R, F, val, ofℕ, ◌⊗◌}
use Rattle.field.proofs.Laws.{val-small, below-p, ofℕ-of, ofℕ-one, ofℕ-mul}

pub ofℕ-pow : (a n : ℕ) → ofℕ (a ^ n) ≡ pow R (ofℕ a) n
ofℕ-pow a zero = ap ofℕ (nat-pow-zero a) ∙ ofℕ-one ∙ sym (pow-zero R (ofℕ a))
ofℕ-pow a (suc n) = ap ofℕ (pow-succ' a n) ∙ ofℕ-mul a (a ^ n) ∙ ap (λ (x : F). ofℕ a ⊗ x) (ofℕ-pow a n) ∙ sym (pow-suc R (ofℕ a) n)

-- A power by half the exponent.
pub pow_even : (a : F) (n : ℕ) → n % 2 ≡ 0 → pow R a n ≡ pow R (a ⊗ a) (n / 2)
pow_even a n e = ap (pow R a) whole ∙ pow-mul R a 2 (n / 2) ∙ ap (λ (x : F). pow R x (n / 2)) (pow-two R a)
  where
    whole : n ≡ 2 * (n / 2)
    whole = omega arith

pub pow-odd : (a : F) (n : ℕ) → n % 2 ≡ 1 → pow R a n ≡ a ⊗ pow R (a ⊗ a) (n / 2)
pow-odd a n e = ap (pow R a) whole ∙ pow-suc R a (2 * (n / 2)) ∙ ap (λ (x : F). a ⊗ x) (pow-mul R a 2 (n / 2) ∙ ap (λ (x : F). pow R x (n / 2)) (pow-two R a))
  where
    whole : n ≡ suc (2 * (n / 2))
    whole = omega arith

-- ---- squaring and multiplying

-- The accumulator times the base to what is left of the exponent is the power t.
pub record Left (t : F) (base left acc : ℕ) : Type 0 where
  pub below : acc < p
  pub whole : ofℕ acc ⊗ pow R (ofℕ base) left ≡ t

pub left-start : (a e : ℕ) → Left (pow R (ofℕ a) e) a e 1
left-start a e = record { below = lit< tt; whole = ap (λ (x : F). x ⊗ pow R (ofℕ a) e) ofℕ-one ∙ one-mul R (pow R (ofℕ a) e) }

module _ {t : F} {base left acc base' : ℕ} (squared : base' ≡ val (ofℕ base ⊗ ofℕ base)) (holds : Left t base left acc) where
  pub left-odd : {acc' : ℕ} → left % 2 ≡ 1 → acc' ≡ val (ofℕ acc ⊗ ofℕ base) → Left t base' (left / 2) acc'
  left-odd odd e =
      record {
        below = below-p (ofℕ acc ⊗ ofℕ base) e;
        whole = ap₂ (λ (x y : F). x ⊗ pow R y (left / 2)) (ofℕ-of (ofℕ acc ⊗ ofℕ base) e) (ofℕ-of (ofℕ base ⊗ ofℕ base) squared)
            ∙ R.mul_assoc (ofℕ acc) (ofℕ base) (pow R (ofℕ base ⊗ ofℕ base) (left / 2))
            ∙ ap (λ (x : F). ofℕ acc ⊗ x) (sym (pow-odd (ofℕ base) left odd))
            ∙ holds.whole;
      }

  pub left-even : {acc' : ℕ} → left % 2 ≡ 0 → acc' ≡ acc → Left t base' (left / 2) acc'
  left-even even e =
      record {
        below = rw e holds.below;
        whole = ap₂ (λ (x : ℕ) (y : F). ofℕ x ⊗ pow R y (left / 2)) e (ofℕ-of (ofℕ base ⊗ ofℕ base) squared)
            ∙ ap (λ (x : F). ofℕ acc ⊗ x) (sym (pow_even (ofℕ base) left even))
            ∙ holds.whole;
      }

pub left-done : {t : F} {base left acc : ℕ} → left ≡ 0 → Left t base left acc → acc ≡ val t
left-done {t} {base} {left} {acc} e holds = sym (val-small holds.below) ∙ ap val (unit ∙ holds.whole)
  where
    unit : ofℕ acc ≡ ofℕ acc ⊗ pow R (ofℕ base) left
    unit = sym (R.mul-one (ofℕ acc)) ∙ ap (λ (x : F). ofℕ acc ⊗ x) (sym (ap (pow R (ofℕ base)) e ∙ pow-zero R (ofℕ base)))
