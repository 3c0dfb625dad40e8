-- Items in byte buffers: an item that is written is read back, and its numbers are below p.
use mathlib.Core.Path.{◌≡◌, ap, ◌∙◌}
use mathlib.Core.Bool.{true}
use mathlib.Core.List.{List, ◌∷◌, ◌++◌}
use Prim.Native.Nat.{ℕ, suc, ◌+◌, ◌<◌}
use native.Mathlib.Omega.{arith}
use lib.ListN.{length, get_or, length-append, get_or-append}
use lib.Seq.{get_or-append-add}
use Rattle.algebra.proofs.ListLaws.{build-cong, build-get_or}
use Rattle.theory.specs.Items.{Item}
use Rattle.theory.specs.Instance.{Instance}
use Rattle.theory.specs.Buffers.{item_front, item_size, read_item, item_bytes}
use Rattle.theory.specs.Sizes.{item_below}
use Rattle.theory.proofs.CheckLaws.{true-every}
use Rattle.theory.proofs.InstanceLaws.{InstanceLaws}
use Rattle.theory.proofs.ElementBytes.{length-written, size-add}
use Rattle.theory.proofs.Parts.{part_right, part-whole}

-- An item has the sizes m and n, and a root of 32 bytes.
pub record Fits {K : Type 0} (m n : ℕ) (item : Item K) : Type 0 where
  pub r-size : length item.r ≡ m
  pub x-size : length item.x ≡ n
  pub root-size : length item.root ≡ 32

module _ (I : Instance) (laws : InstanceLaws I) where
  open I use {field as F, format as E}
  open F.ring use {carrier as K, zero as 𝟘}

  module _ {m n : ℕ} {item : Item K} (fits : Fits m n item) where
    abbrev es : List K
    es = item.e ∷ item.r ++ item.x

    count : length es ≡ 1 + m + n
    count = omega (arith, length-append item.r item.x, fits.r-size, fits.x-size)

    front-size : length (E.bytes_of es) ≡ item_front I m n
    front-size = length-written I laws (1 + m + n) es count ∙ size-add I laws (1 + m) n ∙ ap (λ (s : ℕ). s + E.size n) (size-add I laws 1 m)

    pub length-item_bytes : length (item_bytes I item) ≡ item_size I m n
    length-item_bytes = length-append (E.bytes_of es) item.root ∙ omega (arith, front-size, fits.root-size)

    element : (j : ℕ) → j < 1 + m + n → E.at (item_bytes I item) j ≡ get_or es j 𝟘
    element j h = laws.format-laws.element-read es item.root j (omega (arith, count))

    read-r : (j : ℕ) → j < m → E.at (item_bytes I item) (1 + j) ≡ get_or item.r j 𝟘
    read-r j h =
        let next : 1 + j ≡ suc j = omega arith in
        element (1 + j) (omega arith)
        ∙ ap (λ (i : ℕ). get_or es i 𝟘) next
        ∙ get_or-append item.r item.x 𝟘 j (omega (arith, fits.r-size))

    read-x : (j : ℕ) → j < n → E.at (item_bytes I item) (1 + m + j) ≡ get_or item.x j 𝟘
    read-x j h =
        let next : 1 + m + j ≡ suc (length item.r + j) = omega (arith, fits.r-size) in
        element (1 + m + j) (omega arith)
        ∙ ap (λ (i : ℕ). get_or es i 𝟘) next
        ∙ get_or-append-add item.r item.x j 𝟘

    pub item-read : read_item I m n (item_bytes I item) ≡ item
    item-read i = record {
      e = element 0 (omega arith) i;
      r = (build-cong m (λ j. E.at (item_bytes I item) (1 + j)) (λ j. get_or item.r j 𝟘) read-r ∙ build-get_or item.r m 𝟘 fits.r-size) i;
      x = (build-cong n (λ j. E.at (item_bytes I item) (1 + m + j)) (λ j. get_or item.x j 𝟘) read-x ∙ build-get_or item.x n 𝟘 fits.x-size) i;
      root = (part_right (E.bytes_of es) item.root (item_front I m n) 0 32 (omega (arith, front-size)) ∙ part-whole item.root 32 fits.root-size) i;
    }

    pub item-below : item_below I m n (item_bytes I item) ≡ true
    item-below = true-every (1 + m + n) (E.below (item_bytes I item)) (λ j h. laws.format-laws.element-below es item.root j (omega (arith, count)))
