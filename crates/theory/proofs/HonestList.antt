-- What an honest list has: counts in range, items and witnesses of the sizes, and a quotient, which is the one that folding writes.
use mathlib.Core.Path.{◌≡◌}
use mathlib.Core.Bool.{true}
use mathlib.Core.List.{List, [], ◌∷◌}
use Prim.Native.Nat.{ℕ, ◌*◌, ◌≤◌, ◌<◌}
use native.Mathlib.Omega.{arith}
use borrow.Author.Tests.{eqb-true, leb-true}
use lib.Dec.{leb}
use lib.ListN.{length}
use Rattle.algebra.specs.Lists.{All}
use Rattle.numbers.proofs.Tests.{and_left, and_right, each-true}
use Rattle.code.specs.Points.{is_witness_count}
use Rattle.theory.specs.Items.{Item, Matches}
use Rattle.theory.specs.Combination.{item_at, Shaped, IsQuotient}
use Rattle.theory.specs.Instance.{Instance, code}
use Rattle.theory.specs.Buffers.{circuit, read_items, read_witness}
use Rattle.theory.specs.Sizes.{sizes, item_count_fits}
use Rattle.theory.specs.Calls.{list_quotient}
use Rattle.theory.specs.Statements.{Honest}
use Rattle.theory.proofs.InstanceLaws.{InstanceLaws}
use Rattle.theory.proofs.Passed.{ListFits, list-fits, ListPasses, list-passes, ListBelow, list-below}
use Rattle.theory.proofs.QuotientStated.{quotient-for}
use Rattle.theory.proofs.Reading.{length-read_items, read-shaped}

-- ---- sizes and counts in range

module _ (m n k : ℕ) (fit : sizes m n k ≡ true) where
  size_tests : All (λ t. t ≡ true) (leb m 6 ∷ leb 1 n ∷ leb n 64 ∷ is_witness_count k ∷ [])
  size_tests = each-true (leb m 6) (leb 1 n ∷ leb n 64 ∷ is_witness_count k ∷ []) fit

  pub few_bits : m ≤ 6
  few_bits = leb-true m 6 size_tests.0

  pub some-input : 1 ≤ n
  some-input = leb-true 1 n size_tests.1.0

  pub witness-count : is_witness_count k ≡ true
  witness-count = size_tests.1.1.1.0

module _ (l : ℕ) (fit : item_count_fits l ≡ true) where
  pub some_item : 1 ≤ l
  some_item = leb-true 1 l (and_left (leb 1 l) (leb l 8) fit)

  pub few-items : l ≤ 8
  few-items = leb-true l 8 (and_right (leb 1 l) (leb l 8) fit)

module _ {I : Instance} {m n k l : ℕ} {points a b c items wits : List ℕ} (honest : Honest I m n k l points a b c items wits) where
  open I use {field as F, format as E, hash as H}
  open F.ring use {carrier as K}

  -- ---- the checks that it passes

  pub honest-fits : ListFits I m n k l points a b c items wits
  honest-fits = list-fits I m n k l points a b c items wits honest.check2

  pub honest-passes : ListPasses I m n k l points a b c items wits
  honest-passes = list-passes I m n k l points a b c items wits honest.checks

  pub honest-below : ListBelow I m n k l points a b c items wits
  honest-below = list-below I m n k l points a b c items wits honest-passes.below

  pub wits-size : length wits ≡ l * E.size k
  wits-size = eqb-true (length wits) (l * E.size k) honest-fits.wits-fit

  -- ---- what it is read as

  abbrev batch : List (Item K)
  batch = read_items I m n l items

  -- An index into the items.
  indexed : (i : ℕ) → i < length batch → i < l
  indexed i h = omega (arith, length-read_items I m n l items)

  pub honest-shaped : Shaped F m n k batch (read_witness I k wits)
  honest-shaped = read-shaped I m n l items k wits (some_item l honest-fits.count-fits)

  pub honest-matches : (i : ℕ) → i < length batch → Matches F H (code I k points) (item_at F batch i) (read_witness I k wits i)
  honest-matches i h = honest.matches i (indexed i h)

  pub honest-quotient : InstanceLaws I → IsQuotient F (circuit I a b c) m n k batch (read_witness I k wits) (list_quotient I m n k l a b c items wits)
  honest-quotient laws =
      (quotient-for F laws.nodes-differ (circuit I a b c) m n k batch (read_witness I k wits) (few_bits m n k honest-fits.sizes-fit) few honest-shaped
      ).exists-if (λ i h. honest.holds i (indexed i h))
    where
      few : length batch ≤ 8
      few = omega (arith, length-read_items I m n l items, few-items l honest-fits.count-fits)
