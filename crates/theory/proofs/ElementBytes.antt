-- Elements in byte buffers: what is written is read back; sizes; and the elements of a part.
use mathlib.Core.Path.{◌≡◌, sym, ap, ◌∙◌}
use mathlib.Core.Bool.{true}
use mathlib.Core.List.{List, [], append-nil}
use Prim.Native.Nat.{ℕ, ◌+◌, ◌*◌, ◌≤◌, ◌<◌}
use native.Mathlib.Nat.{mul-add, mul_left_comm}
use native.Mathlib.Omega.{arith}
use lib.ListN.{length, get_or, take, drop, length-take, length-drop}
use lib.Seq.{get_or-take, get_or-drop}
use Rattle.algebra.proofs.ListLaws.{length-build, build-cong, build-get_or}
use Rattle.numbers.specs.Numbers.{numbers}
use Rattle.numbers.proofs.Bounds.{Below, below, all-below}
use Rattle.numbers.proofs.Bytes.{numbers-drop, numbers-take}
use Rattle.field.specs.BabyBear.{p}
use Rattle.tree.specs.Layout.{part}
use Rattle.theory.specs.Instance.{Instance}
use Rattle.theory.specs.Buffers.{elements, witness_part, read_witness}
use Rattle.theory.specs.Sizes.{elements_below}
use Rattle.theory.proofs.InstanceLaws.{FormatLaws, InstanceLaws}
use Rattle.theory.proofs.Parts.{length_part, part-within}

-- ---- a part of a buffer of numbers

pub numbers-part : (b : List ℕ) (i n : ℕ) → 4 * i + 4 * n ≤ length b → numbers (part b (4 * i) (4 * n)) ≡ take n (drop i (numbers b))
numbers-part b i n h =
    numbers-take n (drop (4 * i) b) (simp length-drop (omega arith))
    ∙ ap (take n) (numbers-drop i b (omega arith))

-- Where the numbers of a buffer are below m, those of a part are.
below-part : (m : ℕ) (xs : List ℕ) (i n : ℕ) → Below m xs → Below m (take n (drop i xs))
below-part m xs i n h j l =
    let inside : j < n = omega (arith, length-take n (drop i xs)) in
    rw (get_or-take n (drop i xs) j 0 inside, get_or-drop i xs j 0) (h (i + j) (omega (arith, length-take n (drop i xs), length-drop i xs)))

elements-below-part : (b : List ℕ) (i n : ℕ) → 4 * i + 4 * n ≤ length b → elements_below b ≡ true → elements_below (part b (4 * i) (4 * n)) ≡ true
elements-below-part b i n h e =
    rw (numbers-part b i n h) (all-below p (take n (drop i (numbers b))) (below-part p (numbers b) i n (below p (numbers b) e)))

pub length-read_witness : (I : Instance) (k : ℕ) (wits : List ℕ) (i : ℕ) → length (read_witness I k wits i) ≡ k
length-read_witness I k wits i = length-build k _

module _ (I : Instance) (laws : InstanceLaws I) where
  open I use {field as F, format as E}
  open F.ring use {carrier as K, zero as 𝟘}

  abbrev format : FormatLaws K 𝟘 E
  format = laws.format-laws

  -- ---- elements that are written

  pub length-written : (n : ℕ) (es : List K) → length es ≡ n → length (E.bytes_of es) ≡ E.size n
  length-written n es e = format.length-bytes_of es ∙ ap E.size e

  pub element-alone : (es : List K) (j : ℕ) → j < length es → E.at (E.bytes_of es) j ≡ get_or es j 𝟘
  element-alone es j h = ap (λ (b : List ℕ). E.at b j) (sym (append-nil (E.bytes_of es))) ∙ format.element-read es [] j h

  pub below-alone : (es : List K) (j : ℕ) → j < length es → E.below (E.bytes_of es) j ≡ true
  below-alone es j h = ap (λ (b : List ℕ). E.below b j) (sym (append-nil (E.bytes_of es))) ∙ format.element-below es [] j h

  pub elements-read : (n : ℕ) (es : List K) → length es ≡ n → elements I n (E.bytes_of es) ≡ es
  elements-read n es e =
      build-cong n (E.at (E.bytes_of es)) (λ j. get_or es j 𝟘) (λ j h. element-alone es j (omega arith)) ∙ build-get_or es n 𝟘 e

  -- ---- sizes

  pub size-add : (i n : ℕ) → E.size (i + n) ≡ E.size i + E.size n
  size-add i n = omega (arith, format.size_of (i + n), format.size_of i, format.size_of n, mul-add format.width i n)

  -- ---- a buffer of l witnesses of k elements

  module _ (k l i : ℕ) (wits : List ℕ) (h : i < l) (size : length wits ≡ l * E.size k) where
    within : i * E.size k + E.size k ≤ length wits
    within = part-within l i (E.size k) (length wits) h size

    pub length-witness_part : length (witness_part I k wits i) ≡ E.size k
    length-witness_part = length_part wits (i * E.size k) (E.size k) within

    pub witness-below : elements_below wits ≡ true → elements_below (witness_part I k wits i) ≡ true
    witness-below e = rw (start, format.size_of k) (elements-below-part wits (i * (format.width * k)) (format.width * k) (omega (arith, within, start, format.size_of k)) e)
      where
        start : i * E.size k ≡ 4 * (i * (format.width * k))
        start = ap (λ (s : ℕ). i * s) (format.size_of k) ∙ mul_left_comm i 4 (format.width * k)
