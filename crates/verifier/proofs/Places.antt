-- Where roots and openings lie in their buffers.
use mathlib.Core.Path.{◌≡◌, sym, ap, ap₂, ◌∙◌}
use mathlib.Core.List.{List, [], ◌∷◌, ◌++◌}
use Prim.Native.Nat.{ℕ, suc, ◌+◌, ◌*◌, ◌/◌, ◌≤◌, ◌<◌}
use native.Mathlib.Decide.{dec_lt}
use native.Mathlib.Nat.{suc-mul, add-mul, mul_left_comm}
use native.Mathlib.Numerals.{add-one}
use native.Mathlib.Omega.{arith}
use lib.ListN.{length, get_or, take, drop, length-drop, get_or-append}
use lib.Seq.{get_or-take, get_or-drop, get_or-append_seam}
use Rattle.algebra.specs.Lists.{build}
use Rattle.algebra.proofs.ListLaws.{length-build, get_or-build}
use Rattle.numbers.specs.Numbers.{numbers}
use Rattle.numbers.proofs.Bytes.{numbers-take, numbers-drop}
use Rattle.field.specs.BabyBear.{baby_bear, F}
use Rattle.tree.specs.Layout.{part, opening_size, opened_value}
use Rattle.code.specs.Points.{depth}
use Rattle.theory.specs.Items.{Item}
use Rattle.theory.specs.Combination.{item_at, blank}
use Rattle.theory.specs.Buffers.{number_at}
use Rattle.theory.specs.Fp.{fp, item_front, item_size, read_item}
use Rattle.theory.proofs.Parts.{part-part, part-within}
use Rattle.theory.proofs.Reading.{length-read_items, item_at-read_items, row_within}
use Rattle.verifier.specs.declared.shown.Fold.{Fold}
use Rattle.verifier.specs.Verifying.{batch, root_at, place, stride}

-- ---- roots

module _ (f : Fold) where
  abbrev root : ℕ → List ℕ
  root j = part f.items.now (j * item_size f.sizes.m f.sizes.n + item_front f.sizes.m f.sizes.n) 32

  abbrev last : List ℕ
  last = part f.item.now (item_front f.sizes.m f.sizes.n) 32

  pub item-root : (i : ℕ) {r : List ℕ} → i < f.l → r ≡ root i → r ≡ root_at f i
  item-root i h e = e ∙ sym (get_or-append (build f.l root) (last ∷ []) [] i (omega (arith, length-build f.l root)) ∙ get_or-build f.l root i [] h)

  pub new-root : (i : ℕ) {r : List ℕ} → i ≡ f.l → r ≡ last → r ≡ root_at f i
  new-root i h e =
      e ∙ sym (ap (root_at f) (h ∙ sym (length-build f.l root)) ∙ get_or-append_seam (build f.l root) last [] [])

  -- The roots of the items that the buffers are read as.
  abbrev all : List (Item F)
  all = batch f ++ (read_item f.sizes.m f.sizes.n f.item.now ∷ [])

  pub root-read : (i : ℕ) → i < suc f.l → (item_at baby_bear all i).root ≡ root_at f i
  unfolding item_at
  root-read i h = go (dec_lt i f.l)
    where
      go : Dec (i < f.l) → (item_at baby_bear all i).root ≡ root_at f i
      go (yes g) = item-root i g (
          ap (λ (t : Item F). t.root) (get_or-append (batch f) (read_item f.sizes.m f.sizes.n f.item.now ∷ []) (blank baby_bear) i (omega (arith, length-read_items fp f.sizes.m f.sizes.n f.l f.items.now)) ∙ item_at-read_items fp f.sizes.m f.sizes.n f.l f.items.now i g)
          ∙ part-part f.items.now (i * item_size f.sizes.m f.sizes.n) (item_size f.sizes.m f.sizes.n) (item_front f.sizes.m f.sizes.n) 32 (omega arith))
      go (no g) =
          let e : i ≡ f.l = omega arith in
          new-root i e (
          ap (λ (j : ℕ). (item_at baby_bear all j).root) (e ∙ sym (length-read_items fp f.sizes.m f.sizes.n f.l f.items.now))
          ∙ ap (λ (t : Item F). t.root) (get_or-append_seam (batch f) (read_item f.sizes.m f.sizes.n f.item.now) [] (blank baby_bear)))

-- ---- openings, position by position and, within one, item by item

module _ (f : Fold) where
  -- The bytes of an opening.
  abbrev s : ℕ
  s = opening_size (depth f.sizes.k)

  pub place-is : (q i : ℕ) {size : ℕ} → size ≡ s → (q * (f.l + 1) + i) * size ≡ place f q i
  place-is q i e = ap₂ (λ (n size : ℕ). (q * n + i) * size) (add-one f.l) e

  pub next-opening : (q i : ℕ) → place f q i + s ≡ place f q (i + 1)
  next-opening q i =
      let e : suc (q * suc f.l + i) ≡ q * suc f.l + (i + 1) = omega arith in
      sym (suc-mul (q * suc f.l + i) s) ∙ ap (λ (j : ℕ). j * s) e

  pub next-position : (q i : ℕ) → i ≡ suc f.l → place f q i ≡ place f (q + 1) 0
  next-position q i e =
      let g : q * suc f.l + i ≡ (q + 1) * suc f.l + 0 = omega (arith, e, add-one q, suc-mul q (suc f.l)) in
      ap (λ (j : ℕ). j * s) g

  -- Opening i of position q lies within.
  pub opening-within : (q i : ℕ) → q < f.t → i < suc f.l → place f q i + s ≤ length f.openings.now
  opening-within q i g h = part-within (f.t * suc f.l) (q * suc f.l + i) s (length f.openings.now) (row_within q f.t i (suc f.l) g h) f.openings_length

-- ---- the value of an opening of `stride` numbers, as a number of the buffer

opened-number : (b : List ℕ) (j : ℕ) → 4 * j + 4 ≤ length b → opened_value b (4 * j) ≡ number_at b j
opened-number b j h =
    ap (λ (ns : List ℕ). get_or ns 0 0) (numbers-take 1 (drop (4 * j) b) (omega (arith, length-drop (4 * j) b)) ∙ ap (take 1) (numbers-drop j b (omega arith)))
    ∙ get_or-take 1 (drop j (numbers b)) 0 0 (omega arith)
    ∙ get_or-drop j (numbers b) 0 0
    ∙ ap (number_at b) same
  where
    same : j + 0 ≡ j
    same = omega arith

pub value-number : (b : List ℕ) (j stride : ℕ) → j * (4 * stride) + 4 ≤ length b → opened_value b (j * (4 * stride)) ≡ number_at b (j * stride)
value-number b j stride h = ap (opened_value b) (mul_left_comm j 4 stride) ∙ opened-number b (j * stride) (omega (arith, mul_left_comm j 4 stride))

-- ---- the openings of a position, as numbers of the buffer

module _ (f : Fold) where
  pub layout : 4 * stride f ≡ opening_size (depth f.sizes.k)
  layout = omega arith

  pub stride-is : {size : ℕ} → size ≡ opening_size (depth f.sizes.k) → size / 4 ≡ stride f
  stride-is e = omega (arith, e)

  -- Where they start.
  pub first-is : (q : ℕ) {size : ℕ} → size ≡ opening_size (depth f.sizes.k) → q * (f.l + 1) * (size / 4) ≡ q * suc f.l * stride f
  first-is q e = ap₂ (λ (n stride : ℕ). q * n * stride) (add-one f.l) (stride-is e)

  -- The opening of item i lies within, and the last is that of the new item.
  pub numbers-within : (q i : ℕ) {size : ℕ} → size ≡ opening_size (depth f.sizes.k) → q < f.t → i < suc f.l
      → 4 * (i * (size / 4) + q * (f.l + 1) * (size / 4)) + 4 ≤ length f.openings.now
  numbers-within q i {size} e g h =
      let at : place f q i ≡ (q * suc f.l + i) * (4 * stride f) = ap (λ (s : ℕ). (q * suc f.l + i) * s) (sym layout) in
      let opening : i * (size / 4) ≡ i * stride f = ap (λ (s : ℕ). i * s) (stride-is e) in
      omega (arith, opening-within f q i g h, at, opening, first-is q e, mul_left_comm (q * suc f.l + i) 4 (stride f), add-mul (q * suc f.l) i (stride f))

  pub last-place : (q : ℕ) {size : ℕ} → size ≡ opening_size (depth f.sizes.k)
      → q * (f.l + 1) * (size / 4) + f.l * (size / 4) ≡ (q * suc f.l + f.l) * stride f
  last-place q e = ap₂ ◌+◌ (first-is q e) (ap (λ (s : ℕ). f.l * s) (stride-is e)) ∙ sym (add-mul (q * suc f.l) f.l (stride f))
