-- The points of a witness count are pairwise different: no power of the generator from 1 to 255 is 1.
-- Assumes nothing.
use mathlib.Core.Path.{◌≡◌, sym, ◌∙◌, ap, subst}
use mathlib.Core.Logic.{◌≢◌}
use mathlib.Core.Bool.{Bool, true, not, ◌&&◌}
use Prim.Native.Nat.{ℕ, zero, suc, ◌+◌, ◌*◌, ◌-◌, ◌/◌, ◌%◌, ◌<◌}
use native.Mathlib.Nat.{mul-lt-mul_of_pos_right, eq_of_mul-eq-mul_right}
use native.Mathlib.Decide.{dec_lt}
use native.Mathlib.Omega.{arith}
use lib.Dec.{T, eqb, eqb_refl, T_not, lit<}
use lib.Ieee.Fits.{and_l, and_r}
use Rattle.algebra.specs.Lists.{Distinct}
use Rattle.algebra.proofs.FieldLaws.{cancel-factor, cancel_left}
use Rattle.algebra.proofs.ListLaws.{distinct-build}
use Rattle.algebra.proofs.PowerLaws.{pow-add}
use Rattle.field.specs.BabyBear.{p, baby_bear, R, F, val, 𝟘, 𝟙, ◌⊗◌}
use Rattle.field.proofs.Laws.{val-one, val-small, ofℕ-nonzero}
use Rattle.code.specs.Points.{is_witness_count, generator, point, points}
use Rattle.code.proofs.Sizes.{step-whole, step-positive}
use Rattle.code.proofs.Points.{point-zero, point-suc, point-step}
use Rattle.code.proofs.Generator.{generator_number, generator-number, next}

-- None of n numbers from x on, each the one before times the generator, is 1.
never_one : ℕ → ℕ → Bool
never_one zero x = true
never_one (suc n) x = not (eqb x 1) && never_one n (x * generator_number % p)

never_one-sound : (f : ℕ → F) → ((i : ℕ) → f (suc i) ≡ f i ⊗ generator 64) → (n x : ℕ) → x ≡ val (f 0) → T (never_one n x) → (i : ℕ) → i < n → f i ≢ 𝟙
unfolding never_one
never_one-sound f follows zero x e t i h = absurd (omega arith)
never_one-sound f follows (suc n) x e t zero h = λ z. T_not (eqb x 1) (and_l (not (eqb x 1)) (never_one n (x * generator_number % p)) t)
    (subst (λ (y : ℕ). T (eqb y 1)) (sym (e ∙ ap val z ∙ val-one)) (eqb_refl 1))
never_one-sound f follows (suc n) x e t (suc i) h =
    never_one-sound (λ i. f (suc i)) (λ i. follows (suc i)) n (x * generator_number % p) (next f follows x 0 e) (and_r (not (eqb x 1)) (never_one n (x * generator_number % p)) t) i (omega arith)

-- No power of the generator from 1 to 255 is 1.
order : (d : ℕ) → d < 255 → point 64 (suc d) ≢ 𝟙
order = never_one-sound (λ i. point 64 (suc i)) (λ i. point-suc 64 (suc i)) 255 generator_number
    (sym (ap val (point-suc 64 0 ∙ ap (λ (a : F). a ⊗ generator 64) (point-zero 64) ∙ R.mul_comm 𝟙 (generator 64) ∙ R.mul-one (generator 64) ∙ generator-number) ∙ val-small {n = generator_number} (lit< tt)))
    (unfold never_one in tt)

generator-nonzero : generator 64 ≢ 𝟘
generator-nonzero e = ofℕ-nonzero {n = generator_number} (lit< tt) (lit< tt) (sym generator-number ∙ e)

point-nonzero : (i : ℕ) → point 64 i ≢ 𝟘
point-nonzero zero e = baby_bear.one≢zero (sym (point-zero 64) ∙ e)
point-nonzero (suc i) e = point-nonzero i (cancel-factor baby_bear (generator 64) (point 64 i) generator-nonzero (R.mul_comm (generator 64) (point 64 i) ∙ sym (point-suc 64 i) ∙ e))

-- Were points i and j one, for i < j, the power j - i would be 1.
earlier : (i j : ℕ) → i < j → j < 256 → point 64 i ≢ point 64 j
unfolding point
earlier i j h l e = order (j - suc i) (omega arith)
    (sym (cancel_left baby_bear (point 64 i) 𝟙 (point 64 (suc (j - suc i))) (point-nonzero i)
    (R.mul-one (point 64 i) ∙ e ∙ ap (point 64) whole ∙ pow-add R (generator 64) i (suc (j - suc i)))))
  where
    whole : j ≡ i + suc (j - suc i)
    whole = omega arith

different-64 : (i j : ℕ) → i < 256 → j < 256 → point 64 i ≡ point 64 j → i ≡ j
different-64 i j hi hj e = go (dec_lt i j) (dec_lt j i)
  where
    go : Dec (i < j) → Dec (j < i) → i ≡ j
    go (yes l) d = absurd (earlier i j l hj e)
    go (no n) (yes l) = absurd (earlier j i l hi (sym e))
    go (no n) (no m) = omega arith

module _ (k : ℕ) (h : is_witness_count k ≡ true) where
  -- Position i of 4k has its point within the table.
  pub within-table : (i : ℕ) → i < 4 * k → i * (64 / k) < 256
  within-table i l = omega (arith, mul-lt-mul_of_pos_right {m = i} {n = 4 * k} {k = 64 / k} l (step-positive k h), step-whole k h)

  pub point-different : (i j : ℕ) → i < 4 * k → j < 4 * k → point k i ≡ point k j → i ≡ j
  point-different i j hi hj e = eq_of_mul-eq-mul_right (64 / k) (step-positive k h) i j
      (different-64 (i * (64 / k)) (j * (64 / k)) (within-table i hi) (within-table j hj) (point-step k i h ∙ e ∙ sym (point-step k j h)))

  pub points-distinct : Distinct (points k)
  unfolding points
  points-distinct = distinct-build (4 * k) (point k) point-different
