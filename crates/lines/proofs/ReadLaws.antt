-- A row by the test that it was read with.
use mathlib.Core.Path.{◌≡◌, refl, sym, ap, ◌∙◌}
use mathlib.Core.Bool.{Bool, true, false, cond, and-false}
use Prim.Native.Nat.{ℕ, ◌+◌}
use mathlib.Core.List.{List}
use native.Mathlib.Omega.{arith}
use borrow.Author.Tests.{eq-eqb, ne_eqb}
use lib.ListN.{length}
use Rattle.std.specs.Prelude.{Option, Some, None}
use Rattle.lines.specs.declared.row.Row.{Row}
use Rattle.lines.specs.Text.{all_pass, is_number}
use Rattle.lines.specs.Cursor.{fields_at, next_line, numbers_at, exactly_at}

abbrev pub read_row : ℕ → ℕ → Option Row
read_row count next = Some (record { count = count; next = next })

pub cond-read : (t : Bool) (n m : ℕ) {row : Row} → cond t (read_row n m) None ≡ Some row → (t ≡ true) × (row.count ≡ n) × (row.next ≡ m)
cond-read true n m {row} e =
    let v : row ≡ record { count = n; next = m } = cc in
    (refl, ap (λ x. x.count) v, ap (λ x. x.next) v)
cond-read false n m e = cc

pub cond-bad : (t : Bool) (n m : ℕ) → cond t (read_row n m) None ≡ None → t ≡ false
cond-bad true n m e = cc
cond-bad false n m e = refl

module _ (s : List ℕ) (at count : ℕ) {r : Option Row} (e : r ≡ numbers_at s at count) where
  pub row-bad : r ≡ None → all_pass is_number (fields_at s at) ≡ false
  unfolding numbers_at
  row-bad b = cond-bad (all_pass is_number (fields_at s at)) _ _ (sym e ∙ b)

  pub row_read : {row : Row} → r ≡ Some row → (all_pass is_number (fields_at s at) ≡ true) × (row.count ≡ count + length (fields_at s at)) × (row.next ≡ next_line s at)
  unfolding numbers_at
  row_read t = cond-read (all_pass is_number (fields_at s at)) _ _ (sym e ∙ t)

  -- exactly `size` numbers
  module _ (size : ℕ) where
    pub exactly-bad : r ≡ None → None ≡ exactly_at s at count size
    unfolding exactly_at
    exactly-bad b = sym (rw (row-bad b))

    module _ {row : Row} (t : r ≡ Some row) where
      pub exactly-other : (row.count ≡ count + size → ⊥) → None ≡ exactly_at s at count size
      unfolding exactly_at
      exactly-other n = sym (rw (ne_eqb (length (fields_at s at)) size (λ q. n (omega (arith, (row_read t).1))), and-false))

      pub exactly-read : row.count ≡ count + size → Some row ≡ exactly_at s at count size
      unfolding exactly_at
      exactly-read q = sym (rw ((row_read t).0, eq-eqb (length (fields_at s at)) size (omega (arith, (row_read t).1)), ← q, ← (row_read t).2))
