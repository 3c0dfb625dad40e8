-- The six counts of witness numbers, their steps through the table and the depths of their trees.
-- Assumes nothing.
use mathlib.Core.Path.{◌≡◌, refl, sym, subst}
use mathlib.Core.Bool.{Bool, true, false, ◌||◌}
use Prim.Native.Nat.{ℕ, suc, ◌*◌, ◌/◌, ◌^◌, ◌≤◌, ◌<◌}
use native.Mathlib.Nat.{pow-succ'}
use native.Mathlib.Decide.{dec_lt}
use native.Mathlib.Omega.{arith}
use borrow.Author.Tests.{eqb-true}
use lib.Dec.{eqb, lit<, lit≤}
use lib.Pow.{pow_mono, pow-lt}
use Rattle.code.specs.Points.{is_witness_count, depth}

either : {P : Type 0} (s t : Bool) → (s ≡ true → P) → (t ≡ true → P) → s || t ≡ true → P
either true t f g h = f refl
either false t f g h = g h

-- What holds of 2, 4, 8, 16, 32 and 64 holds of every witness count.
pub for-witness-counts : (P : ℕ → Type 0) → P 2 → P 4 → P 8 → P 16 → P 32 → P 64 → (k : ℕ) → is_witness_count k ≡ true → P k
for-witness-counts P p2 p4 p8 p16 p32 p64 k =
    either (eqb k 2 || eqb k 4 || eqb k 8 || eqb k 16 || eqb k 32) (eqb k 64)
    (either (eqb k 2 || eqb k 4 || eqb k 8 || eqb k 16) (eqb k 32)
    (either (eqb k 2 || eqb k 4 || eqb k 8) (eqb k 16)
    (either (eqb k 2 || eqb k 4) (eqb k 8)
    (either (eqb k 2) (eqb k 4) (case 2 p2) (case 4 p4)) (case 8 p8)) (case 16 p16)) (case 32 p32)) (case 64 p64)
  where
    case : (n : ℕ) → P n → eqb k n ≡ true → P k
    case n h e = subst P (sym (eqb-true k n e)) h

pub depth-few : (k : ℕ) → is_witness_count k ≡ true → depth k < 9
unfolding depth
depth-few = for-witness-counts (λ k. depth k < 9) (lit< tt) (lit< tt) (lit< tt) (lit< tt) (lit< tt) (lit< tt)

-- A tree of depth d has 2 ^ d leaves.
pub depth-leaves : (k : ℕ) → is_witness_count k ≡ true → 2 ^ depth k ≡ 4 * k
unfolding depth
depth-leaves = for-witness-counts (λ k. 2 ^ depth k ≡ 4 * k) refl refl refl refl refl refl

pub step-whole : (k : ℕ) → is_witness_count k ≡ true → k * (64 / k) ≡ 64
step-whole = for-witness-counts (λ k. k * (64 / k) ≡ 64) refl refl refl refl refl refl

pub step-positive : (k : ℕ) → is_witness_count k ≡ true → 0 < 64 / k
step-positive = for-witness-counts (λ k. 0 < 64 / k) (lit< tt) (lit< tt) (lit< tt) (lit< tt) (lit< tt) (lit< tt)

pub count-positive : (k : ℕ) → is_witness_count k ≡ true → 0 < k
count-positive = for-witness-counts (λ k. 0 < k) (lit< tt) (lit< tt) (lit< tt) (lit< tt) (lit< tt) (lit< tt)

-- A witness has at most 64 numbers.
pub count-few : (k : ℕ) → is_witness_count k ≡ true → k ≤ 64
count-few = for-witness-counts (λ k. k ≤ 64) (lit≤ tt) (lit≤ tt) (lit≤ tt) (lit≤ tt) (lit≤ tt) (lit≤ tt)

-- The depth is the only number d with 4k from 2 ^ d up to 2 * 2 ^ d.
pub depth-only : (k d : ℕ) → is_witness_count k ≡ true → 2 ^ d ≤ 4 * k → 4 * k < 2 * 2 ^ d → d ≡ depth k
depth-only k d h low high = go (dec_lt d (depth k)) (dec_lt (depth k) d)
  where
    go : Dec (d < depth k) → Dec (depth k < d) → d ≡ depth k
    go (yes l) e = absurd (omega (arith, depth-leaves k h, pow_mono {i = suc d} {j = depth k} l, pow-succ' 2 d))
    go (no n) (yes l) = absurd (omega (arith, depth-leaves k h, pow-lt l))
    go (no n) (no m) = omega arith
