-- What folding writes: the new witness and the new item.
use mathlib.Core.Path.{◌≡◌, sym, ap, ap₂, subst, ◌∙◌}
use mathlib.Core.Bool.{true}
use mathlib.Core.List.{List, ◌∷◌, ◌++◌, map}
use Prim.Native.Nat.{ℕ, ◌+◌, ◌*◌, ◌≤◌, ◌<◌}
use native.Mathlib.Omega.{arith}
use lib.ListN.{length, take, replicate}
use lib.Seq.{length-take-le}
use Rattle.algebra.proofs.ListLaws.{length-build}
use Rattle.field.specs.BabyBear.{baby_bear, F, val, ofℕ}
use Rattle.field.specs.Numbers.{Below}
use Rattle.field.proofs.Numbers.{elements-of-numbers, numbers-of-elements}
use Rattle.theory.specs.Items.{Item}
use Rattle.theory.specs.Combination.{new_e, new_r, new_x}
use Rattle.theory.specs.Sizes.{elements_below}
use Rattle.theory.specs.Fp.{fp, witness_root, elements, element_bytes, item_bytes, read_items, new_witness, new_item}
use Rattle.theory.proofs.ElementBytes.{length-written, elements-read}
use Rattle.theory.proofs.FpLaws.{values-below, fp-format, fp-laws}
use Rattle.r1cs.specs.declared.list.List.{List as Listed}
use Rattle.fold.specs.declared.basis.Weights.{Weights}
use Rattle.fold.specs.Weights.{lagrange_at, weighted_from}
use Rattle.fold.proofs.Reading.{part-inside}
use Rattle.fold.proofs.Mixing.{length-weights, weighted_from-below, mixed-w}

-- ---- the new witness

-- The array's front that it fills, before.
abbrev pub scratch : Listed → List ℕ
scratch s = take s.sizes.k (replicate 64 0)

module _ (s : Listed) (v : Weights) (many : v.l ≡ s.l) {weights : List ℕ} (w : weights ≡ lagrange_at v.l v.at) where
  weights-are : weights ≡ lagrange_at s.l v.at
  weights-are = w ∙ ap (λ (l : ℕ). lagrange_at l v.at) many

  weights-many : length weights ≡ s.l
  weights-many = length-weights s.l v.at weights-are

  scratch-length : length (scratch s) ≡ s.sizes.k
  scratch-length = length-take-le s.sizes.k (replicate 64 0) s.sizes.k_most

  -- There is a weight, and the numbers that are combined lie in the buffer.
  pub witness-inside : (0 < length weights) × ((i : ℕ) → i < length weights → 4 * (i * s.sizes.k + 0 + length (scratch s)) ≤ length s.wits.now)
  witness-inside = (
    omega (arith, weights-many),
    λ i h. omega (arith, scratch-length, part-inside s.wits.now s.l s.sizes.k s.wits_length i (rw weights-many at h)),
  )

  pub new-witness : {xs : List ℕ} → xs ≡ weighted_from weights s.wits.now s.sizes.k 0 (length (scratch s))
      → xs ≡ map val (new_witness s.sizes.k s.l (ofℕ v.at) s.wits.now)
  new-witness h =
      h
      ∙ ap (weighted_from weights s.wits.now s.sizes.k 0) scratch-length
      ∙ sym (numbers-of-elements (weighted_from weights s.wits.now s.sizes.k 0 s.sizes.k) (weighted_from-below weights s.wits.now s.sizes.k 0 s.sizes.k))
      ∙ ap (map val) (mixed-w s.l v.at weights-are s.sizes.k s.wits.now s.wits_length)

module _ (s : Listed) (a : F) where
  abbrev w : List F
  w = new_witness s.sizes.k s.l a s.wits.now

  new-witness-size : length w ≡ s.sizes.k
  new-witness-size = length-build s.sizes.k _

  pub witness-fits : {wit : List ℕ} → wit ≡ element_bytes w → (length wit ≡ 4 * s.sizes.k) × (elements_below wit ≡ true)
  witness-fits e = (ap length e ∙ length-written fp fp-laws s.sizes.k w new-witness-size, ap elements_below e ∙ fp-format.numbers-below w)

  -- ---- the new item

  pub new-item-written : (points : List ℕ) (q : List F) {values wit out : List ℕ} → values ≡ map val q → wit ≡ element_bytes w
      → out ≡ element_bytes (new_e baby_bear (read_items s.sizes.m s.sizes.n s.l s.items.now) (map ofℕ values) a ∷ new_r baby_bear s.sizes.m (read_items s.sizes.m s.sizes.n s.l s.items.now) a ++ new_x baby_bear s.sizes.n (read_items s.sizes.m s.sizes.n s.l s.items.now) a) ++ witness_root s.sizes.k points (elements s.sizes.k wit)
      → out ≡ item_bytes (new_item s.sizes.m s.sizes.n s.sizes.k s.l a points s.items.now s.wits.now q)
  new-item-written points q ev ew eo =
      eo
      ∙ ap₂ (λ (c t : List F). element_bytes (new_e baby_bear items c a ∷ new_r baby_bear s.sizes.m items a ++ new_x baby_bear s.sizes.n items a) ++ witness_root s.sizes.k points t)
      (ap (map ofℕ) ev ∙ elements-of-numbers q) (ap (elements s.sizes.k) ew ∙ elements-read fp fp-laws s.sizes.k w new-witness-size)
    where
      items : List (Item F)
      items = read_items s.sizes.m s.sizes.n s.l s.items.now

-- The quotient's numbers are below p, and stand for the quotient.
pub quotient-below : (q : List F) {values : List ℕ} → values ≡ map val q → Below values
quotient-below q e = subst Below (sym e) (values-below q)
