-- What check 2 shows of sizes and counts.
use mathlib.Core.Path.{◌≡◌}
use mathlib.Core.Bool.{true}
use mathlib.Core.List.{[], ◌∷◌}
use Prim.Native.Nat.{ℕ, ◌*◌, ◌≤◌}
use native.Mathlib.Nat.{mul-le-mul}
use native.Mathlib.Omega.{arith}
use borrow.Author.Tests.{leb-true}
use lib.Dec.{leb}
use Rattle.numbers.proofs.Tests.{and_left, and_right, each-true}
use Rattle.code.specs.Points.{is_witness_count}
use Rattle.code.proofs.Sizes.{count-few}
use Rattle.theory.specs.Sizes.{sizes, item_count_fits}
use Rattle.theory.specs.Fp.{item_size}

pub record Sized (m n k : ℕ) : Type 0 where
  pub m-most : m ≤ 6
  pub n-least : 1 ≤ n
  pub n-most : n ≤ 64
  pub count : is_witness_count k ≡ true
  pub k-most : k ≤ 64

pub sized : (m n k : ℕ) → sizes m n k ≡ true → Sized m n k
sized m n k e =
    let t = each-true (leb m 6) (leb 1 n ∷ leb n 64 ∷ is_witness_count k ∷ []) e in
    record {
      m-most = leb-true m 6 t.0;
      n-least = leb-true 1 n t.1.0;
      n-most = leb-true n 64 t.1.1.0;
      count = t.1.1.1.0;
      k-most = count-few k t.1.1.1.0;
    }

pub counted : (l : ℕ) → item_count_fits l ≡ true → (1 ≤ l) × (l ≤ 8)
counted l e = (leb-true 1 l (and_left (leb 1 l) (leb l 8) e), leb-true l 8 (and_right (leb 1 l) (leb l 8) e))

-- The items of a list have few bytes: each has at most 1,024.
pub items-few : (m n l : ℕ) → m ≤ 6 → n ≤ 64 → l ≤ 8 → l * item_size m n ≤ 8192
items-few m n l hm hn hl = mul-le-mul {n₁ = l} {m₁ = item_size m n} {n₂ = 8} {m₂ = 1024} hl (omega arith)
