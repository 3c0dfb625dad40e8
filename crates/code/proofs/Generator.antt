-- The generator for 64 witness numbers: its number, its power -1, and the rule of a table of its powers.
-- Assumes nothing.
use mathlib.Core.Path.{◌≡◌, refl, sym, ◌∙◌, ap, ap₂}
use mathlib.Core.Bool.{Bool, true, ◌&&◌}
use mathlib.Core.List.{List, [], ◌∷◌, map}
use Prim.Native.Nat.{ℕ, suc, ◌*◌, ◌-◌, ◌%◌, ◌^◌}
use lib.Dec.{T, eqb, eqb→eq, lit<, lit≤}
use lib.Ieee.Fits.{and_l, and_r}
use lib.ListN.{length}
use Rattle.algebra.specs.Lists.{build}
use Rattle.algebra.specs.Polynomial.{pow}
use Rattle.algebra.proofs.ListLaws.{map-build}
use Rattle.algebra.proofs.PowerLaws.{pow-mul, squarings, pow-squarings}
use Rattle.field.specs.BabyBear.{p, baby_bear, R, F, val, ofℕ, 𝟙, ⊝◌, ◌⊗◌}
use Rattle.field.proofs.Laws.{val_inj, val-ofℕ, val-one, val-small, ofℕ-of, ofℕ-one, ofℕ-mul, ofℕ-neg}
use Rattle.code.specs.Points.{generator, point, points}
use Rattle.code.proofs.Points.{point-zero, point-suc}

-- ---- the generator as a number

abbrev pub generator_number : ℕ
generator_number = 1732600167

-- (p - 1) / 256 is 15 × 2^19: the power 15, and 19 squarings.
generator-computed : val (squarings R 19 (pow R (ofℕ 31) 15)) ≡ generator_number
unfolding pow baby_bear ofℕ val
generator-computed = refl

pub generator-number : generator 64 ≡ ofℕ generator_number
unfolding generator
generator-number = pow-mul R (ofℕ 31) 15 (2 ^ 19) ∙ pow-squarings R 19 (pow R (ofℕ 31) 15)
    ∙ val_inj _ _ (generator-computed ∙ sym (val-small {n = generator_number} (lit< tt)))

-- 128 = 2^7: seven squarings.
turn-computed : val (squarings R 7 (ofℕ generator_number)) ≡ p - 1
unfolding baby_bear ofℕ val
turn-computed = refl

-- Its power 128 is -1, so that points i and i + 128 are opposites.
pub half-turn : pow R (generator 64) 128 ≡ ⊝ 𝟙
half-turn = ap (λ (g : F). pow R g 128) generator-number ∙ pow-squarings R 7 (ofℕ generator_number)
    ∙ val_inj _ _ (turn-computed ∙ sym (val-small {n = p - 1} (lit< tt))) ∙ ofℕ-neg 1 (lit≤ tt) ∙ ap ⊝◌ ofℕ-one

-- ---- a table of its powers

-- The first entry is x, and each next is the one before times the generator.
unfoldable pub powers_from : ℕ → List ℕ → Bool
powers_from x [] = true
powers_from x (y ∷ ys) = eqb y x && powers_from (y * generator_number % p) ys

-- For elements f 0, f 1, .., each the one before times the generator: the same of their numbers.
module _ (f : ℕ → F) (follows : (i : ℕ) → f (suc i) ≡ f i ⊗ generator 64) where
  pub next : (x i : ℕ) → x ≡ val (f i) → x * generator_number % p ≡ val (f (suc i))
  next x i e = sym (ap val (follows i ∙ ap₂ ◌⊗◌ (sym (ofℕ-of (f i) e)) generator-number ∙ sym (ofℕ-mul x generator_number)) ∙ val-ofℕ (x * generator_number))

powers-sound : (f : ℕ → F) → ((i : ℕ) → f (suc i) ≡ f i ⊗ generator 64) → (xs : List ℕ) (x : ℕ) → x ≡ val (f 0) → T (powers_from x xs) → xs ≡ build (length xs) (λ i. val (f i))
unfolding powers_from
powers-sound f follows [] x e t = refl
powers-sound f follows (y ∷ ys) x e t =
    let same : y ≡ val (f 0) = eqb→eq y x (and_l (eqb y x) (powers_from (y * generator_number % p) ys) t) ∙ e in
    ap₂ {C = List ℕ} ◌∷◌ same (powers-sound (λ i. f (suc i)) (λ i. follows (suc i)) ys (y * generator_number % p) (next f follows y 0 same) (and_r (eqb y x) (powers_from (y * generator_number % p) ys) t))

-- A table of 256 numbers whose first is 1, and each next the one before times the generator, holds the points of 64.
pub table-points : (xs : List ℕ) → length xs ≡ 256 → T (powers_from 1 xs) → xs ≡ map val (points 64)
unfolding points
table-points xs l t = powers-sound (point 64) (point-suc 64) xs 1 (sym (ap val (point-zero 64) ∙ val-one)) t
    ∙ ap (λ (n : ℕ). build n (λ i. val (point 64 i))) l ∙ sym (map-build val 256 (point 64))
