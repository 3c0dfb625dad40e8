-- Every step-th number of a list. Of the table of the points of 64, every (64 / k)-th is a point of k, for every witness count k.
-- Assumes nothing.
use mathlib.Core.Path.{◌≡◌, refl, sym, ◌∙◌, ap}
use mathlib.Core.Bool.{true}
use mathlib.Core.List.{List, map}
use Prim.Native.Nat.{ℕ, ◌*◌, ◌/◌, ◌<◌}
use native.Mathlib.Nat.{mul-one}
use native.Mathlib.Omega.{arith}
use lib.ListN.{length, get_or}
use Rattle.algebra.specs.Lists.{build}
use Rattle.algebra.proofs.ListLaws.{build-cong, build-get_or, map-build, get_or-map}
use Rattle.field.specs.BabyBear.{F, val, ofℕ, 𝟘}
use Rattle.field.proofs.Laws.{ofℕ-val}
use Rattle.code.specs.Points.{is_witness_count, point, points}
use Rattle.code.proofs.Points.{points-length, points-at, point-step}
use Rattle.code.proofs.Different.{within-table}

-- Every step-th number of a list, from the first on: n elements.
abbrev pub taken : List ℕ → ℕ → ℕ → List F
taken xs step n = build n (λ i. ofℕ (get_or xs (i * step) 0))

pub taken-all : (xs : List ℕ) → taken xs 1 (length xs) ≡ map ofℕ xs
taken-all xs = build-cong (length xs) (λ i. ofℕ (get_or xs (i * 1) 0)) (λ i. ofℕ (get_or xs i 0)) (λ i h. ap (λ (j : ℕ). ofℕ (get_or xs j 0)) (mul-one i))
    ∙ sym (map-build ofℕ (length xs) (λ i. get_or xs i 0)) ∙ ap (map ofℕ) (build-get_or xs (length xs) 0 refl)

pub table_at : (i : ℕ) → i < 256 → get_or (map val (points 64)) i 0 ≡ val (point 64 i)
table_at i h = get_or-map val (points 64) i 𝟘 0 (omega (arith, points-length 64)) ∙ ap val (points-at 64 i 𝟘 h)

pub taken-points : (table : List ℕ) → table ≡ map val (points 64) → (k : ℕ) → is_witness_count k ≡ true → taken table (64 / k) (4 * k) ≡ points k
unfolding points
taken-points table whole k count = build-cong (4 * k) (λ i. ofℕ (get_or table (i * (64 / k)) 0)) (point k) entry
  where
    entry : (i : ℕ) → i < 4 * k → ofℕ (get_or table (i * (64 / k)) 0) ≡ point k i
    entry i h = ap (λ (t : List ℕ). ofℕ (get_or t (i * (64 / k)) 0)) whole ∙ ap ofℕ (table_at (i * (64 / k)) (within-table k count i h))
        ∙ ofℕ-val (point 64 (i * (64 / k))) ∙ point-step k i count
