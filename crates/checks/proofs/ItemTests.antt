-- Parts of an item in a byte buffer, and the test of a value against its e.
use mathlib.Core.Path.{◌≡◌, sym, ap, ap₂, ◌∙◌}
use mathlib.Core.Bool.{true}
use mathlib.Core.List.{List}
use Prim.Native.Nat.{ℕ, ◌+◌, ◌-◌, ◌*◌, ◌≤◌, ◌<◌}
use native.Mathlib.Omega.{arith}
use borrow.Author.Tests.{eqb-true, eq-eqb, ltb-true, lt-ltb}
use lib.Dec.{eqb, ltb}
use lib.ListN.{length, get_or, take, drop, length-take}
use lib.Seq.{take-take, get_or-take, get_or-drop}
use Rattle.algebra.specs.Lists.{build}
use Rattle.algebra.proofs.ListLaws.{build-cong}
use Rattle.numbers.specs.Numbers.{numbers, all_below}
use Rattle.numbers.proofs.Bounds.{below, all-below}
use Rattle.numbers.proofs.Bytes.{count-numbers, numbers-take}
use Rattle.numbers.proofs.Tests.{same_test}
use Rattle.field.specs.BabyBear.{p, R, F, val, ofℕ}
use Rattle.field.proofs.Laws.{val-small, ofℕ-val}
use Rattle.tree.specs.Layout.{part}
use Rattle.theory.specs.R1cs.{Circuit, value}
use Rattle.theory.specs.Checks.{every}
use Rattle.theory.specs.Buffers.{entry_count, number_at}
use Rattle.theory.specs.Sizes.{elements_below}
use Rattle.theory.specs.Fp.{fp, element_at, elements, item_front, read_item, item_below, same_element}
use Rattle.theory.proofs.CheckLaws.{every_true, true-every}
use Rattle.theory.proofs.Parts.{length_part, part_cut, part-part, part-within}
use Rattle.theory.proofs.ElementBytes.{numbers-part}
use Rattle.theory.proofs.Equality.{same-element, equal-element}

-- ---- tests

-- Elements are equal exactly if their numbers are.
pub element-test : (v : F) (e : ℕ) → e < p → eqb (val v) e ≡ same_element v (ofℕ e)
element-test v e h =
    same_test (eqb (val v) e) (same_element v (ofℕ e))
    (λ t. same-element fp (sym (ofℕ-val v) ∙ ap ofℕ (eqb-true (val v) e t)))
    (λ t. eq-eqb (val v) e (ap val (equal-element fp v (ofℕ e) t) ∙ val-small h))

-- ---- elements of a part

-- Number j of the part from number i on is number i + j.
pub number-part : (b : List ℕ) (i n j : ℕ) → 4 * i + 4 * n ≤ length b → j < n → number_at (part b (4 * i) (4 * n)) j ≡ number_at b (i + j)
number-part b i n j h l =
    ap (λ (xs : List ℕ). get_or xs j 0) (numbers-part b i n h)
    ∙ get_or-take n (drop i (numbers b)) j 0 l
    ∙ get_or-drop i (numbers b) j 0

pub elements-part : (b : List ℕ) (i n : ℕ) → 4 * i + 4 * n ≤ length b → elements n (part b (4 * i) (4 * n)) ≡ build n (λ j. element_at b (i + j))
elements-part b i n h = build-cong n (element_at (part b (4 * i) (4 * n))) (λ j. element_at b (i + j)) (λ j l. ap ofℕ (number-part b i n j h l))

-- The first n numbers of a buffer.
first-below : (n : ℕ) (xs : List ℕ) → n ≤ length xs → all_below p (take n xs) ≡ every n (λ j. ltb (get_or xs j 0) p)
first-below n xs h =
    same_test (all_below p (take n xs)) (every n (λ j. ltb (get_or xs j 0) p))
    (λ t. true-every n _ (λ j l. lt-ltb (get_or xs j 0) p (rw (sym (get_or-take n xs j 0 l)) (below p (take n xs) t j (omega (arith, length-take n xs))))))
    (λ t. all-below p (take n xs) (λ j l. let inside : j < n = omega (arith, length-take n xs) in rw (get_or-take n xs j 0 inside) (ltb-true (get_or xs j 0) p (every_true n _ t j inside))))

pub front-below : (n : ℕ) (b : List ℕ) → 4 * n ≤ length b → elements_below (take (4 * n) b) ≡ every n (λ j. ltb (number_at b j) p)
front-below n b h = ap (all_below p) (numbers-take n b h) ∙ first-below n (numbers b) (omega (arith, count-numbers b))

-- The first n numbers of member i of l members of one size.
pub member-below : (n size l i : ℕ) (items : List ℕ) → 4 * n ≤ size → length items ≡ l * size → i < l
    → elements_below (part items (i * size) (i * size + 4 * n - i * size)) ≡ every n (λ j. ltb (number_at (part items (i * size) size) j) p)
member-below n size l i items room long h =
    ap elements_below (part_cut items (i * size) (4 * n) ∙ sym (take-take (4 * n) size (drop (i * size) items) room))
    ∙ front-below n (part items (i * size) size) (omega (arith, length_part items (i * size) size (part-within l i size (length items) h long)))

-- Number j of entry i, of three numbers, and number 0 of a part.
pub entry-number : (b : List ℕ) (i j : ℕ) → i < entry_count b → j < 3 → number_at (part b (i * 12) 12) j ≡ number_at b (3 * i + j)
entry-number b i j h l =
    let start : i * 12 ≡ 4 * (3 * i) = omega arith in
    ap (λ (at : ℕ). number_at (part b at 12) j) start ∙ number-part b (3 * i) 3 j (omega arith) l

-- Number 0 of member j of members of one size.
pub first-number : (b : List ℕ) (size count j : ℕ) → j < count → length b ≡ count * size → 4 ≤ size → number_at (part b (j * size) size) 0 ≡ number_at (part b (j * size) 4) 0
first-number b size count j h long room =
    let inside = part-within count j size (length b) h long in
    let here : j * size + 0 ≡ j * size = omega arith in
    sym (number-part (part b (j * size) size) 0 1 0 (omega (arith, length_part b (j * size) size inside)) (omega arith))
    ∙ ap (λ (bytes : List ℕ). number_at bytes 0) (part-part b (j * size) size 0 4 room ∙ ap (λ (at : ℕ). part b at 4) here)

-- ---- an item of m and n numbers

module _ (m n : ℕ) (b : List ℕ) (room : item_front m n ≤ length b) where
  -- The bytes of r and of x, from their start to their end.
  abbrev pub r_bytes : List ℕ
  r_bytes = take (4 + 4 * m - 4) (drop 4 b)

  abbrev pub x_bytes : List ℕ
  x_bytes = take (4 + 4 * m + 4 * n - (4 + 4 * m)) (drop (4 + 4 * m) b)

  r-part : r_bytes ≡ part b 4 (4 * m)
  r-part =
      let count : 4 + 4 * m - 4 ≡ 4 * m = omega arith in
      ap (part b 4) count

  x-part : x_bytes ≡ part b (4 * (1 + m)) (4 * n)
  x-part =
      let count : 4 + 4 * m + 4 * n - (4 + 4 * m) ≡ 4 * n = omega arith in
      let start : 4 + 4 * m ≡ 4 * (1 + m) = omega arith in
      ap₂ (part b) start count

  -- The value at their elements is that at the item's.
  pub item-value-read : (M : Circuit F) (w : List F) → val (value R M (elements m r_bytes) (elements n x_bytes) w) ≡ val (value R M (read_item m n b).r (read_item m n b).x w)
  item-value-read M w =
      ap₂ (λ (r x : List F). val (value R M r x w))
      (ap (elements m) r-part ∙ elements-part b 1 m (omega arith))
      (ap (elements n) x-part ∙ elements-part b (1 + m) n (omega arith))

  module _ (small : item_below m n b ≡ true) where
    number-below : (j : ℕ) → j < 1 + m + n → number_at b j < p
    number-below j h = ltb-true (number_at b j) p (every_true (1 + m + n) (λ i. ltb (number_at b i) p) small j h)

    pub r-below : elements_below r_bytes ≡ true
    r-below = ap elements_below r-part ∙ all-below p (numbers (part b 4 (4 * m))) each
      where
        each : (j : ℕ) → j < length (numbers (part b 4 (4 * m))) → number_at (part b 4 (4 * m)) j < p
        each j h =
            let inside : j < m = omega (arith, ap length (numbers-part b 1 m (omega arith)), length-take m (drop 1 (numbers b))) in
            rw (number-part b 1 m j (omega arith) inside) (number-below (1 + j) (omega arith))

    -- The test of a value against e.
    pub value-test : (v : F) {z e : ℕ} → z ≡ val v → e ≡ number_at b 0 → eqb z e ≡ same_element v (read_item m n b).e
    value-test v h q = ap₂ eqb h q ∙ element-test v (number_at b 0) (number-below 0 (omega arith))
