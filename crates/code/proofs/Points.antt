-- The points of the code follow one another by the generator, and a smaller k takes every (64 / k)-th of the points of 64.
-- Assumes nothing.
use mathlib.Core.Path.{◌≡◌, refl, sym, ◌∙◌, ap}
use mathlib.Core.Bool.{true}
use Prim.Native.Nat.{ℕ, suc, ◌*◌, ◌-◌, ◌/◌, ◌<◌}
use native.Mathlib.Nat.{mul_comm}
use lib.ListN.{length, get_or}
use Rattle.algebra.specs.Polynomial.{pow}
use Rattle.algebra.proofs.ListLaws.{length-build, get_or-build}
use Rattle.algebra.proofs.PowerLaws.{pow-zero, pow-suc, pow-mul}
use Rattle.field.specs.BabyBear.{p, R, F, ofℕ, 𝟙, ◌⊗◌}
use Rattle.code.specs.Points.{is_witness_count, generator, point, points}
use Rattle.code.proofs.Sizes.{for-witness-counts}

-- ---- one point after the other

pub point-zero : (k : ℕ) → point k 0 ≡ 𝟙
unfolding point
point-zero k = pow-zero R (generator k)

pub point-suc : (k i : ℕ) → point k (suc i) ≡ point k i ⊗ generator k
unfolding point
point-suc k i = pow-suc R (generator k) i ∙ R.mul_comm (generator k) (pow R (generator k) i)

pub points-length : (k : ℕ) → length (points k) ≡ 4 * k
unfolding points
points-length k = length-build (4 * k) (point k)

pub points-at : (k i : ℕ) (d : F) → i < 4 * k → get_or (points k) i d ≡ point k i
unfolding points
points-at k i d h = get_or-build (4 * k) (point k) i d h

-- ---- a smaller k takes every (64 / k)-th point of 64

exponent : (k : ℕ) → is_witness_count k ≡ true → (p - 1) / 256 * (64 / k) ≡ (p - 1) / (4 * k)
exponent = for-witness-counts (λ k. (p - 1) / 256 * (64 / k) ≡ (p - 1) / (4 * k)) refl refl refl refl refl refl

generator-step : (k : ℕ) → is_witness_count k ≡ true → pow R (generator 64) (64 / k) ≡ generator k
unfolding generator
generator-step k h = sym (pow-mul R (ofℕ 31) ((p - 1) / 256) (64 / k)) ∙ ap (pow R (ofℕ 31)) (exponent k h)

pub point-step : (k i : ℕ) → is_witness_count k ≡ true → point 64 (i * (64 / k)) ≡ point k i
unfolding point
point-step k i h = ap (pow R (generator 64)) (mul_comm i (64 / k)) ∙ pow-mul R (generator 64) (64 / k) i
    ∙ ap (λ (g : F). pow R g i) (generator-step k h)
