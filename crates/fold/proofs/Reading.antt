-- The numbers of the items and of the witnesses, as numbers of the buffers that they lie in.
use mathlib.Core.Path.{◌≡◌, sym, ap, ◌∙◌}
use mathlib.Core.List.{List}
use Prim.Native.Nat.{ℕ, ◌+◌, ◌*◌, ◌≤◌, ◌<◌}
use native.Mathlib.Nat.{suc-mul, mul_left_comm, mul-le-mul_right, zero-add}
use native.Mathlib.Omega.{arith}
use lib.ListN.{length, get_or, take, drop, length-drop}
use lib.Seq.{get_or-take, get_or-drop}
use Rattle.algebra.proofs.ListLaws.{length-build, get_or-build}
use Rattle.numbers.specs.Numbers.{numbers}
use Rattle.numbers.proofs.Bytes.{numbers-take, numbers-drop}
use Rattle.field.specs.BabyBear.{baby_bear, F, ofℕ, 𝟘}
use Rattle.theory.specs.Items.{Item}
use Rattle.theory.specs.Combination.{blank, item_at}
use Rattle.theory.specs.Buffers.{number_at}
use Rattle.theory.specs.Fp.{element_at, item_size, item_part, read_item, read_items, witness_part, read_witness}

-- ---- l parts of s numbers

module _ (b : List ℕ) (l s : ℕ) (sized : length b ≡ l * (4 * s)) (i : ℕ) (h : i < l) where
  pub part-inside : 4 * (i * s + s) ≤ length b
  part-inside = omega (arith, sized, mul_left_comm l 4 s, mul-le-mul_right s h, suc-mul i s)

  -- Number j of part i.
  pub part-number : (j : ℕ) → j < s → number_at (take (4 * s) (drop (i * (4 * s)) b)) j ≡ number_at b (i * s + j)
  part-number j k = ap (λ (at : ℕ). number_at (take (4 * s) (drop at b)) j) (mul_left_comm i 4 s)
      ∙ ap (λ (ns : List ℕ). get_or ns j 0) (numbers-take s (drop (4 * (i * s)) b) left ∙ ap (take s) (numbers-drop (i * s) b (omega (arith, part-inside))))
      ∙ get_or-take s (drop (i * s) (numbers b)) j 0 k
      ∙ get_or-drop (i * s) (numbers b) j 0
    where
      left : 4 * s ≤ length (drop (4 * (i * s)) b)
      left = simp length-drop (omega (arith, part-inside))

-- ---- the items of a buffer of l, `stride` numbers from one to the next

pub length-items : (m n l : ℕ) (items : List ℕ) → length (read_items m n l items) ≡ l
length-items m n l items = length-build l (λ i. read_item m n (item_part m n items i))

module _ (m n l stride : ℕ) (items : List ℕ) (layout : 4 * stride ≡ item_size m n) (sized : length items ≡ l * item_size m n) where
  items-sized : length items ≡ l * (4 * stride)
  items-sized = sized ∙ ap (λ (s : ℕ). l * s) (sym layout)

  -- An item's e, r and x are its first numbers.
  pub numbers-first : 1 + m + n ≤ stride
  numbers-first = omega (arith, layout)

  module _ (i : ℕ) (h : i < l) where
    pub item-inside : 4 * (i * stride + stride) ≤ length items
    item-inside = part-inside items l stride items-sized i h

    item-number : (j : ℕ) → j < 1 + m + n → number_at (item_part m n items i) j ≡ number_at items (i * stride + j)
    item-number j g =
        ap (λ (s : ℕ). number_at (take s (drop (i * s) items)) j) (sym layout)
        ∙ part-number items l stride items-sized i h j (omega (arith, numbers-first))

    item-at : item_at baby_bear (read_items m n l items) i ≡ read_item m n (item_part m n items i)
    unfolding item_at
    item-at = get_or-build l (λ i. read_item m n (item_part m n items i)) i (blank baby_bear) h

    pub item-e : (item_at baby_bear (read_items m n l items) i).e ≡ element_at items (i * stride + 0)
    item-e = ap (λ (it : Item F). it.e) item-at ∙ ap ofℕ (item-number 0 (omega arith))

    pub item-r : (j : ℕ) → j < m → get_or (item_at baby_bear (read_items m n l items) i).r j 𝟘 ≡ element_at items (i * stride + (1 + j))
    item-r j g = ap (λ (it : Item F). get_or it.r j 𝟘) item-at
        ∙ get_or-build m (λ j. element_at (item_part m n items i) (1 + j)) j 𝟘 g
        ∙ ap ofℕ (item-number (1 + j) (omega arith))

    pub item-x : (j : ℕ) → j < n → get_or (item_at baby_bear (read_items m n l items) i).x j 𝟘 ≡ element_at items (i * stride + (1 + m + j))
    item-x j g = ap (λ (it : Item F). get_or it.x j 𝟘) item-at
        ∙ get_or-build n (λ j. element_at (item_part m n items i) (1 + m + j)) j 𝟘 g
        ∙ ap ofℕ (item-number (1 + m + j) (omega arith))

-- ---- the witnesses of a buffer of l

pub witness-w : (k l : ℕ) (wits : List ℕ) → length wits ≡ l * (4 * k) → (i : ℕ) → i < l → (j : ℕ) → j < k
    → get_or (read_witness k wits i) j 𝟘 ≡ element_at wits (i * k + (0 + j))
witness-w k l wits sized i h j g = get_or-build k (element_at (witness_part k wits i)) j 𝟘 g
    ∙ ap ofℕ (part-number wits l k sized i h j g)
    ∙ ap (λ (n : ℕ). element_at wits (i * k + n)) (sym (zero-add j))
