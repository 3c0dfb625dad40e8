-- Every skip-th point of the table: the powers of one root, a power of the generator.
-- Assumes nothing.
use mathlib.Core.Path.{◌≡◌, sym, ◌∙◌, ap}
use mathlib.Core.List.{List, map}
use Prim.Native.Nat.{ℕ, ◌*◌, ◌<◌}
use native.Mathlib.Nat.{mul_comm, mul-lt-mul_of_pos_right}
use native.Mathlib.Omega.{arith}
use lib.ListN.{get_or}
use Rattle.algebra.specs.Polynomial.{pow}
use Rattle.algebra.proofs.PowerLaws.{pow-mul, pow-two}
use Rattle.field.specs.BabyBear.{R, F, val, ofℕ, 𝟙, ⊝◌, ◌⊗◌}
use Rattle.field.proofs.Laws.{ofℕ-val}
use Rattle.code.specs.Points.{generator, point, points}
use Rattle.code.proofs.Generator.{half-turn}
use Rattle.code.proofs.Taken.{table_at}
use Rattle.transform.proofs.BlockLaws.{factor-positive}

-- The root for a skip.
abbrev pub root : ℕ → F
root skip = pow R (generator 64) skip

pub root-square : (skip : ℕ) → root (2 * skip) ≡ root skip ⊗ root skip
root-square skip = ap (pow R (generator 64)) (mul_comm 2 skip) ∙ pow-mul R (generator 64) skip 2 ∙ pow-two R (root skip)

pub root-turn : (skip half : ℕ) → half * skip ≡ 128 → pow R (root skip) half ≡ ⊝ 𝟙
root-turn skip half e = sym (pow-mul R (generator 64) skip half) ∙ ap (pow R (generator 64)) (mul_comm skip half ∙ e) ∙ half-turn

pub within : (skip n : ℕ) → n * skip ≡ 256 → (i : ℕ) → i < n → i * skip < 256
within skip n size i h = omega (arith, mul-lt-mul_of_pos_right {m = i} {n = n} {k = skip} h (factor-positive n skip 0 (omega arith)))

pub power_at : (table : List ℕ) → table ≡ map val (points 64) → (skip n : ℕ) → n * skip ≡ 256 → (i : ℕ) → i < n → ofℕ (get_or table (i * skip) 0) ≡ pow R (root skip) i
unfolding point
power_at table whole skip n size i h = ap (λ (t : List ℕ). ofℕ (get_or t (i * skip) 0)) whole ∙ ap ofℕ (table_at (i * skip) (within skip n size i h)) ∙ ofℕ-val (point 64 (i * skip))
    ∙ ap (pow R (generator 64)) (mul_comm i skip) ∙ pow-mul R (generator 64) skip i
