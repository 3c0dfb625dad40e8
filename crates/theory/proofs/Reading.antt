-- What byte buffers are read as: the items of a list with their witnesses, and the openings of a fold.
use mathlib.Core.Path.{◌≡◌, ap, ap₂, ◌∙◌}
use mathlib.Core.List.{List}
use Prim.Native.Nat.{ℕ, suc, ◌+◌, ◌*◌, ◌<◌}
use native.Mathlib.Nat.{suc-mul, mul-le-mul_right}
use native.Mathlib.Omega.{arith}
use lib.ListN.{length, get_or}
use Rattle.algebra.proofs.ListLaws.{length-build, get_or-build}
use Rattle.code.specs.Points.{depth}
use Rattle.theory.specs.Items.{Item}
use Rattle.theory.specs.Combination.{item_at, blank, Shaped}
use Rattle.theory.specs.Folds.{no_opening, opening_at}
use Rattle.theory.specs.Instance.{Instance}
use Rattle.theory.specs.Buffers.{elements, circuit, item_size, read_item, item_part, read_items, read_witness, read_opening}
use Rattle.theory.specs.Sizes.{item_below, items_below}
use Rattle.theory.specs.Calls.{matches, holds, all_match, all_hold}
use Rattle.theory.specs.Verify.{read_shown}
use Rattle.theory.proofs.CheckLaws.{every_one}
use Rattle.theory.proofs.ElementBytes.{length-read_witness}
use Rattle.theory.proofs.Parts.{first_part}

-- Entry i of row q lies within t rows of s entries.
pub row_within : (q t i s : ℕ) → q < t → i < s → q * s + i < t * s
row_within q t i s h j = omega (arith, mul-le-mul_right s h, suc-mul q s)

module _ (I : Instance) where
  open I use {field as F, format as E}
  open F.ring use {carrier as K}

  -- ---- l items and their witnesses

  module _ (m n l : ℕ) (items : List ℕ) where
    pub length-read_items : length (read_items I m n l items) ≡ l
    length-read_items = length-build l (λ i. read_item I m n (item_part I m n items i))

    pub item_at-read_items : (i : ℕ) → i < l → item_at F (read_items I m n l items) i ≡ read_item I m n (item_part I m n items i)
    unfolding item_at
    item_at-read_items i h = get_or-build l (λ j. read_item I m n (item_part I m n items j)) i (blank F) h

    -- They have the sizes.
    pub read-shaped : (k : ℕ) (wits : List ℕ) → 0 < l → Shaped F m n k (read_items I m n l items) (read_witness I k wits)
    read-shaped k wits some = record {
      some_item = omega (arith, length-read_items);
      item-r = λ i h. ap (λ (t : Item K). length t.r) (item_at-read_items i (omega (arith, length-read_items))) ∙ length-build m _;
      item-x = λ i h. ap (λ (t : Item K). length t.x) (item_at-read_items i (omega (arith, length-read_items))) ∙ length-build n _;
      witness = λ i h. length-read_witness I k wits i;
    }

  -- A list of one item with its witness: what is read, and what the checks on lists test.
  module _ (m n k : ℕ) (item wit : List ℕ) (item-size : length item ≡ item_size I m n) (wit-size : length wit ≡ E.size k) where
    one-item : item_at F (read_items I m n 1 item) 0 ≡ read_item I m n item
    one-item = item_at-read_items m n 1 item 0 (omega arith) ∙ ap (read_item I m n) (first_part item (item_size I m n) item-size)

    one-witness : read_witness I k wit 0 ≡ elements I k wit
    one-witness = ap (elements I k) (first_part wit (E.size k) wit-size)

    pub one_below : items_below I m n 1 item ≡ item_below I m n item
    one_below = every_one _ ∙ ap (item_below I m n) (first_part item (item_size I m n) item-size)

    pub one-matches : (points : List ℕ) → all_match I m n k 1 points item wit ≡ matches I k points (read_item I m n item) (elements I k wit)
    one-matches points = every_one _ ∙ ap₂ (matches I k points) one-item one-witness

    pub one_holds : (a b c : List ℕ) → all_hold I m n k 1 a b c item wit ≡ holds I (circuit I a b c) (read_item I m n item) (elements I k wit)
    one_holds a b c = every_one _ ∙ ap₂ (holds I (circuit I a b c)) one-item one-witness

  -- ---- openings

  -- The opening of item i at the position with index q.
  module _ (m n k l t : ℕ) (challenge : E.Challenge) (items positions item openings : List ℕ) (q i : ℕ) where
    pub opening_at-read_shown : q < t → i < suc l
        → opening_at F (read_items I m n l items) (read_shown I m n k l t challenge positions item openings) q i ≡ read_opening I (depth k) openings (q * suc l + i)
    unfolding opening_at
    opening_at-read_shown h j =
        ap (λ (s : ℕ). get_or (read_shown I m n k l t challenge positions item openings).openings (q * suc s + i) (no_opening F)) (length-read_items m n l items)
        ∙ get_or-build (t * suc l) (read_opening I (depth k) openings) (q * suc l + i) (no_opening F) (row_within q t i (suc l) h j)
