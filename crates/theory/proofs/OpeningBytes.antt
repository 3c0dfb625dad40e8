-- Openings in byte buffers: an opening that is written is read back; and so are those of several buffers, taken in order.
use mathlib.Core.Path.{◌≡◌, refl, sym, ap, ap₂, ◌∙◌}
use mathlib.Core.Bool.{true}
use mathlib.Core.List.{List, [], ◌∷◌}
use Prim.Native.Nat.{ℕ, suc, ◌+◌, ◌*◌, ◌/◌, ◌%◌, ◌<◌}
use native.Mathlib.Nat.{mul_assoc, add-mul, div-add-mod', mod-lt, div-lt_iff_lt-mul}
use native.Mathlib.Omega.{arith}
use lib.ListN.{length, take, drop, length-append}
use lib.Seq.{take-take, take_at, drop_at}
use Rattle.algebra.specs.Lists.{concat_to}
use Rattle.algebra.proofs.ListLaws.{length-concat_to}
use Rattle.tree.specs.Merkle.{Long}
use Rattle.tree.specs.Layout.{part, digests, flat}
use Rattle.tree.proofs.ReadBack.{digests-drop, digests-take, flat-length, digests-flat}
use Rattle.theory.specs.Folds.{Opening}
use Rattle.theory.specs.Instance.{Instance}
use Rattle.theory.specs.Buffers.{opening_size, opening_part, opened_part, read_opening, opening_bytes, in_order}
use Rattle.theory.specs.Sizes.{opened_below}
use Rattle.theory.proofs.CheckLaws.{true-every}
use Rattle.theory.proofs.InstanceLaws.{InstanceLaws}
use Rattle.theory.proofs.ElementBytes.{length-written, element-alone, below-alone}
use Rattle.theory.proofs.Parts.{part-concat_to, part_of, part-within}

-- The siblings of an opening are `depth` strings of 32 bytes.
pub record Siblings {K : Type 0} (depth : ℕ) (o : Opening K) : Type 0 where
  pub count : length o.siblings ≡ depth
  pub long : Long o.siblings

module _ (I : Instance) (laws : InstanceLaws I) where
  open I use {field as F, format as E}
  open F.ring use {carrier as K}

  -- ---- an opening

  value-size : (v : K) → length (E.bytes_of (v ∷ [])) ≡ E.size 1
  value-size v = length-written I laws 1 (v ∷ []) refl

  module _ {depth : ℕ} {o : Opening K} (full : Siblings depth o) where
    abbrev value : List ℕ
    value = E.bytes_of (o.value ∷ [])

    abbrev siblings : List ℕ
    siblings = flat o.siblings

    pub length-opening_bytes : length (opening_bytes I o) ≡ opening_size I depth
    length-opening_bytes = length-append value siblings ∙ omega (arith, value-size o.value, flat-length o.siblings full.long, full.count)

    -- It is read at every place where its bytes stand.
    module _ (s : List ℕ) (at : ℕ) (here : part s at (opening_size I depth) ≡ opening_bytes I o) where
      value-at : part s at (E.size 1) ≡ value
      value-at =
          sym (take-take (E.size 1) (opening_size I depth) (drop at s) (omega arith))
          ∙ ap (take (E.size 1)) here
          ∙ take_at value siblings (E.size 1) (value-size o.value)

      siblings-at : digests s (at + E.size 1) depth ≡ o.siblings
      siblings-at =
          digests-drop s at (E.size 1) depth
          ∙ sym (digests-take (drop at s) (opening_size I depth) (E.size 1) depth (omega arith))
          ∙ ap (λ (b : List ℕ). digests b (E.size 1) depth) here
          ∙ ap (λ (n : ℕ). digests (opening_bytes I o) n depth) plus-zero
          ∙ digests-drop (opening_bytes I o) (E.size 1) 0 depth
          ∙ ap₂ (λ (b : List ℕ) (d : ℕ). digests b 0 d) (drop_at value siblings (E.size 1) (value-size o.value)) (sym full.count)
          ∙ digests-flat o.siblings full.long
        where
          plus-zero : E.size 1 ≡ E.size 1 + 0
          plus-zero = omega arith

  -- ---- buffers of t openings each, taken in order

  -- Buffer i holds the openings o i 0 to o i (t - 1).
  module _ (depth t l : ℕ) (o : ℕ → ℕ → Opening K) (full : (i q : ℕ) → Siblings depth (o i q))
      (buffers : ℕ → List ℕ) (held : (i : ℕ) → i < suc l → buffers i ≡ concat_to t (λ q. opening_bytes I (o i q))) where
    abbrev size : ℕ
    size = opening_size I depth

    part-is : (i q : ℕ) → i < suc l → q < t → opening_part I depth (buffers i) q ≡ opening_bytes I (o i q)
    part-is i q h g =
        ap (λ (b : List ℕ). opening_part I depth b q) (held i h)
        ∙ part_of t size (λ s. opening_bytes I (o i s)) (λ s k. length-opening_bytes (full i s)) q g

    part-size : (q : ℕ) → q < t → (i : ℕ) → i < suc l → length (opening_part I depth (buffers i) q) ≡ size
    part-size q g i h = ap length (part-is i q h g) ∙ length-opening_bytes (full i q)

    -- The openings of one position.
    abbrev row : ℕ → List ℕ
    row q = concat_to (suc l) (λ i. opening_part I depth (buffers i) q)

    row-size : (q : ℕ) → q < t → length (row q) ≡ suc l * size
    row-size q g = length-concat_to (suc l) size (λ i. opening_part I depth (buffers i) q) (part-size q g)

    abbrev ordered : List ℕ
    ordered = in_order I depth t l buffers

    pub length-in_order : length ordered ≡ t * suc l * size
    length-in_order = length-concat_to t (suc l * size) row row-size ∙ sym (mul_assoc t (suc l) size)

    place : (q i : ℕ) → (q * suc l + i) * size ≡ q * (suc l * size) + i * size
    place q i = add-mul (q * suc l) i size ∙ ap (λ (k : ℕ). k + i * size) (mul_assoc q (suc l) size)

    module _ (q i : ℕ) (g : q < t) (h : i < suc l) where
      in_place : part ordered ((q * suc l + i) * size) size ≡ opening_bytes I (o i q)
      in_place =
          ap (λ (at : ℕ). part ordered at size) (place q i)
          ∙ part-concat_to t (suc l * size) row row-size q (i * size) size g (part-within (suc l) i size (suc l * size) h refl)
          ∙ part_of (suc l) size (λ j. opening_part I depth (buffers j) q) (part-size q g) i h
          ∙ part-is i q h g

      value-in-place : opened_part I depth ordered (q * suc l + i) ≡ E.bytes_of ((o i q).value ∷ [])
      value-in-place = value-at (full i q) ordered ((q * suc l + i) * size) in_place

      -- The opening in place q × (l + 1) + i is opening q of buffer i.
      pub opening-read : read_opening I depth ordered (q * suc l + i) ≡ o i q
      opening-read j = record {
        value = (ap (λ (b : List ℕ). E.at b 0) value-in-place ∙ element-alone I laws ((o i q).value ∷ []) 0 (omega arith)) j;
        siblings = siblings-at (full i q) ordered ((q * suc l + i) * size) in_place j;
      }

    -- Each place is such a place, and the value in it is below p.
    value-below : (j : ℕ) → j < t * suc l → E.below (opened_part I depth ordered j) 0 ≡ true
    value-below j h =
        ap (λ (b : List ℕ). E.below b 0) (ap (opened_part I depth ordered) split ∙ value-in-place q i q-below i-below)
        ∙ below-alone I laws ((o i q).value ∷ []) 0 (omega arith)
      where
        q : ℕ
        q = j / suc l

        i : ℕ
        i = j % suc l

        split : j ≡ q * suc l + i
        split = sym (div-add-mod' j (suc l))

        q-below : q < t
        q-below = (div-lt_iff_lt-mul {k = suc l} (omega arith)).1 h

        i-below : i < suc l
        i-below = mod-lt j {m = suc l} (omega arith)

    pub opened-below : opened_below I depth (t * suc l) ordered ≡ true
    opened-below = true-every (t * suc l) (λ j. E.below (opened_part I depth ordered j) 0) value-below
