-- The places of blocks: bits reversed. A place is below the number of blocks, and follows from the place of half of b.
-- Assumes nothing.
use mathlib.Core.Path.{◌≡◌, refl, sym, ◌∙◌, ap, ap₂}
use mathlib.Core.Bool.{true}
use mathlib.Core.List.{List}
use Prim.Native.Nat.{ℕ, zero, suc, ◌+◌, ◌*◌, ◌-◌, ◌/◌, ◌%◌, ◌^◌, ◌≤◌, ◌<◌}
use native.Mathlib.Nat.{two-pow-succ, zero-mul, one-mul, mul-add, mul-le-mul_right, pos_of_ne-zero}
use native.Mathlib.Decide.{ℕ_discrete}
use native.Mathlib.Omega.{arith}
use lib.ListN.{length, get_or, set, replicate, length-set}
use lib.Seq.{get_or-set_same, get_or-set_other}
use Rattle.algebra.proofs.Filling.{Filled, filled_none, filled_more}
use Rattle.code.specs.Points.{is_witness_count, depth}
use Rattle.code.proofs.Sizes.{depth-leaves, count-positive, count-few}
use Rattle.transform.specs.Blocks.{place}

-- ---- 2 ^ e blocks

pub bit-times : (b n : ℕ) → b % 2 * n ≤ n
bit-times b n = omega (arith, mul-le-mul_right {m = b % 2} {n = 1} n (omega arith), one-mul n)

place-below : (e b : ℕ) → b < 2 ^ e → place e b < 2 ^ e
place-below zero b h = omega arith
place-below (suc e) b h = omega (arith, place-below e (b / 2) (omega (arith, two-pow-succ e)), two-pow-succ e, bit-times b (2 ^ e))

place-zero : (e : ℕ) → place e 0 ≡ 0
place-zero zero = refl
place-zero (suc e) = omega (arith, place-zero e, zero-mul (2 ^ e))

pub place-even : (e b : ℕ) → place (suc e) (b + b) ≡ place e b
place-even e b = ap₂ (λ (c r : ℕ). place e c + r * 2 ^ e) half even ∙ omega (arith, zero-mul (2 ^ e))
  where
    half : (b + b) / 2 ≡ b
    half = omega arith

    even : (b + b) % 2 ≡ 0
    even = omega arith

pub place-odd : (e b : ℕ) → place (suc e) (b + b + 1) ≡ place e b + 2 ^ e
place-odd e b = ap₂ (λ (c r : ℕ). place e c + r * 2 ^ e) half odd ∙ omega (arith, one-mul (2 ^ e))
  where
    half : (b + b + 1) / 2 ≡ b
    half = omega arith

    odd : (b + b + 1) % 2 ≡ 1
    odd = omega arith

place-halved : (e b : ℕ) → b < 2 ^ e → place (suc e) b / 2 ≡ place e b
place-halved zero b h = omega arith
place-halved (suc e) b h =
    omega (arith, place-halved e (b / 2) (omega (arith, two-pow-succ e)), ap (λ (n : ℕ). b % 2 * n) (two-pow-succ e) ∙ mul-add (b % 2) (2 ^ e) (2 ^ e))

place-step : (e b : ℕ) → b < 2 ^ suc e → place (suc e) b ≡ place (suc e) (b / 2) / 2 + b % 2 * 2 ^ e
place-step e b h = ap (λ (n : ℕ). n + b % 2 * 2 ^ e) (sym (place-halved e (b / 2) (omega (arith, two-pow-succ e))))

place-next : (e k b : ℕ) → 2 ^ e ≡ k → 0 < b → b < k → place e b ≡ place e (b / 2) / 2 + b % 2 * (k / 2)
place-next zero k b p l h = absurd (omega arith)
place-next (suc e) k b p l h = place-step e b (omega arith) ∙ ap (λ (n : ℕ). place (suc e) (b / 2) / 2 + b % 2 * n) half
  where
    half : 2 ^ e ≡ k / 2
    half = omega (arith, two-pow-succ e)

-- ---- the loop that finds the places of k blocks

power-of-count : (d k : ℕ) → 0 < k → 2 ^ d ≡ 4 * k → 2 ^ (d - 2) ≡ k
power-of-count zero k h e = absurd (omega arith)
power-of-count (suc zero) k h e = absurd (omega arith)
power-of-count (suc (suc d)) k h e = ap (λ (n : ℕ). 2 ^ n) less ∙ omega (arith, two-pow-succ (suc d), two-pow-succ d)
  where
    less : suc (suc d) - 2 ≡ d
    less = omega arith

-- The state before turn b: the places of the blocks before it are found.
pub record Found (k b : ℕ) (xs : List ℕ) : Type 0 where
  pub long : length xs ≡ 64
  pub first : get_or xs 0 0 ≡ 0
  pub filled : Filled (place (depth k - 2)) b xs

module _ (k : ℕ) (count : is_witness_count k ≡ true) where
  pub blocks-power : 2 ^ (depth k - 2) ≡ k
  blocks-power = power-of-count (depth k) k (count-positive k count) (depth-leaves k count)

  pub place-few : (b : ℕ) → b < k → place (depth k - 2) b < k
  place-few b h = omega (arith, place-below (depth k - 2) b (omega (arith, blocks-power)), blocks-power)

  pub found_none : Found k 0 (replicate 64 0)
  found_none = record { long = refl; first = refl; filled = filled_none (place (depth k - 2)) (replicate 64 0) }

  module _ (b : ℕ) (xs : List ℕ) (h : b < k) (t : Found k b xs) where
    -- What turn b finds.
    abbrev next : ℕ
    next = get_or xs (b / 2) 0 / 2 + b % 2 * (k / 2)

    next_place : next ≡ place (depth k - 2) b
    next_place = go (ℕ_discrete b 0)
      where
        go : Dec (b ≡ 0) → next ≡ place (depth k - 2) b
        go (yes z) = rw z (omega (arith, t.first, zero-mul (k / 2), place-zero (depth k - 2)))
        go (no z) = ap (λ (n : ℕ). n / 2 + b % 2 * (k / 2)) (t.filled (b / 2) (omega (arith, pos_of_ne-zero z))) ∙ sym (place-next (depth k - 2) k b blocks-power (pos_of_ne-zero z) h)

    -- What is read back.
    pub stored : get_or (set xs b next) b 0 ≡ place (depth k - 2) b
    stored = get_or-set_same xs b next 0 (omega (arith, count-few k count, t.long)) ∙ next_place

    pub found-more : Found k (b + 1) (set xs b next)
    found-more = record {
      long = length-set xs b next ∙ t.long;
      first = go (ℕ_discrete 0 b);
      filled = filled_more (place (depth k - 2)) b xs next (omega (arith, count-few k count, t.long)) t.filled next_place;
    }
      where
        go : Dec (0 ≡ b) → get_or (set xs b next) 0 0 ≡ 0
        go (yes z) = ap (λ (i : ℕ). get_or (set xs b next) i 0) z ∙ stored ∙ ap (place (depth k - 2)) (sym z) ∙ place-zero (depth k - 2)
        go (no z) = get_or-set_other xs b 0 next 0 z ∙ t.first
