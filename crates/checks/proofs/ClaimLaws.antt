-- What a claim's value is worked out from: z is x followed by w, and the entries of a circuit in order lie inside.
use mathlib.Core.Path.{◌≡◌, sym, ap, ap₂, ◌∙◌}
use mathlib.Core.Bool.{true, ◌&&◌}
use mathlib.Core.List.{List, ◌++◌, map, map-append}
use Prim.Native.Nat.{ℕ, ◌+◌, ◌*◌, ◌^◌, ◌≤◌, ◌<◌}
use native.Mathlib.Nat.{lt_of_lt_of_le}
use native.Mathlib.Omega.{arith}
use borrow.Author.Tests.{ltb-true}
use lib.Dec.{ltb}
use lib.ListN.{length, length-append}
use Rattle.numbers.specs.Numbers.{numbers}
use Rattle.numbers.proofs.Bytes.{length-numbers}
use Rattle.numbers.proofs.Tests.{and_left, and_right}
use Rattle.field.specs.BabyBear.{R, F, val, ofℕ}
use Rattle.field.specs.Numbers.{Below}
use Rattle.r1cs.specs.Rows.{EntriesInside}
use Rattle.r1cs.proofs.ValueLaws.{rows_few}
use Rattle.theory.specs.Checks.{every}
use Rattle.theory.specs.R1cs.{weighted_sum, value}
use Rattle.theory.specs.Buffers.{entry_count, row_at, column_at}
use Rattle.theory.specs.Fp.{elements, circuit}
use Rattle.theory.specs.Sizes.{elements_below, inside, matrix_in_order, circuit_in_order}
use Rattle.theory.proofs.CheckLaws.{every_true}
use Rattle.checks.proofs.WitnessLaws.{elements-numbers, numbers-below}

-- ---- entries inside

module _ (m n k : ℕ) (few : m ≤ 6) where
  pub entries-inside : (b : List ℕ) → matrix_in_order m n k b ≡ true → EntriesInside 64 (n + k) b
  entries-inside b e i h =
      let t = every_true (entry_count b) (inside m n k b) (and_left (every (entry_count b) (inside m n k b)) _ e) i h in
      let row : row_at b i < 2 ^ m = ltb-true (row_at b i) (2 ^ m) (and_left (ltb (row_at b i) (2 ^ m)) _ t) in
      let column : column_at b i < n + k = ltb-true (column_at b i) (n + k) (and_right (ltb (row_at b i) (2 ^ m)) _ t) in
      (lt_of_lt_of_le row (rows_few m few), column)

  module _ (a b c : List ℕ) (order : circuit_in_order m n k a b c ≡ true) where
    pub inside-a : EntriesInside 64 (n + k) a
    inside-a = entries-inside a (and_left (matrix_in_order m n k a) (matrix_in_order m n k b) (and_left (matrix_in_order m n k a && matrix_in_order m n k b) (matrix_in_order m n k c) order))

    pub inside-b : EntriesInside 64 (n + k) b
    inside-b = entries-inside b (and_right (matrix_in_order m n k a) (matrix_in_order m n k b) (and_left (matrix_in_order m n k a && matrix_in_order m n k b) (matrix_in_order m n k c) order))

    pub inside-c : EntriesInside 64 (n + k) c
    inside-c = entries-inside c (and_right (matrix_in_order m n k a && matrix_in_order m n k b) (matrix_in_order m n k c) order)

-- ---- z

-- The elements of x and of w, one after the other, are those of their numbers.
pub elements-joined : (n k : ℕ) (x w : List ℕ) → length x ≡ 4 * n → length w ≡ 4 * k → map ofℕ (numbers x ++ numbers w) ≡ elements n x ++ elements k w
elements-joined n k x w hx hw = map-append ofℕ (numbers x) (numbers w) ∙ ap₂ ◌++◌ (sym (elements-numbers n x hx)) (sym (elements-numbers k w hw))

-- ---- the value at r and z

-- Lists that were loaded from the buffers: rs from r, and z from x and w behind it.
module _ (m n k : ℕ) (a b c r x w : List ℕ) (few : m ≤ 6) (long-r : length r ≡ 4 * m) (long-x : length x ≡ 4 * n) (long-w : length w ≡ 4 * k) where
  joined_length : {z : List ℕ} → z ≡ numbers x ++ numbers w → length z ≡ n + k
  joined_length e = ap length e ∙ length-append (numbers x) (numbers w) ∙ ap₂ ◌+◌ (length-numbers n x long-x) (length-numbers k w long-w)

  pub value-asked : {rs z : List ℕ} → rs ≡ numbers r → z ≡ numbers x ++ numbers w → elements_below r ≡ true → circuit_in_order m n k a b c ≡ true
      → ((length rs ≤ 6) × Below rs) × (EntriesInside 64 (length z) a × EntriesInside 64 (length z) b × EntriesInside 64 (length z) c)
  value-asked e h small order =
      let count : length (numbers r) ≡ m = length-numbers m r long-r in (
        rw e (omega arith, numbers-below r small),
        rw (joined_length h) (inside-a m n k few a b c order, inside-b m n k few a b c order, inside-c m n k few a b c order),
      )

  pub value_read : {rs z : List ℕ} → rs ≡ numbers r → z ≡ numbers x ++ numbers w
      → val (weighted_sum R (circuit a b c) (map ofℕ rs) (map ofℕ z)) ≡ val (value R (circuit a b c) (elements m r) (elements n x) (elements k w))
  value_read e h =
      ap₂ (λ (rs zs : List F). val (weighted_sum R (circuit a b c) rs zs))
      (ap (map ofℕ) e ∙ sym (elements-numbers m r long-r))
      (ap (map ofℕ) h ∙ elements-joined n k x w long-x long-w)
