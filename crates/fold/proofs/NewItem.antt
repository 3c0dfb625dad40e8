-- The new item's numbers: the combination of the items' numbers, with the new e in the first place.
use mathlib.Core.Path.{◌≡◌, sym, ap, ap₂, ◌∙◌}
use mathlib.Core.List.{List, ◌∷◌, ◌++◌, map, map-append}
use Prim.Native.Nat.{ℕ, suc, ◌+◌, ◌*◌, ◌≤◌, ◌<◌}
use native.Mathlib.Omega.{arith}
use lib.ListN.{length, set}
use Rattle.algebra.proofs.ListLaws.{build-cong, build-append}
use Rattle.field.specs.BabyBear.{baby_bear, F, val, ofℕ}
use Rattle.field.proofs.Numbers.{numbers-of-elements}
use Rattle.theory.specs.Items.{Item}
use Rattle.theory.specs.Combination.{new_e, new_r, new_x}
use Rattle.theory.specs.Fp.{item_size, read_items}
use Rattle.fold.specs.Weights.{lagrange_at, weighted, weighted_from}
use Rattle.fold.proofs.Reading.{numbers-first, item-inside}
use Rattle.fold.proofs.Mixing.{length-weights, weighted_from-below, mixed_r, mixed-x}

module _ (m n l stride at : ℕ) (items : List ℕ) (layout : 4 * stride ≡ item_size m n) (sized : length items ≡ l * item_size m n) {weights : List ℕ} (w : weights ≡ lagrange_at l at) where
  abbrev batch : List (Item F)
  batch = read_items m n l items

  -- The numbers that are combined lie in the buffer.
  pub numbers-inside : (s : ℕ) → s ≡ 1 + m + n → (i : ℕ) → i < length weights → 4 * (i * stride + 0 + s) ≤ length items
  numbers-inside s e i h = omega (arith, e, numbers-first m n l stride items layout sized, item-inside m n l stride items layout sized i (rw (length-weights l at w) at h))

  rs : map val (new_r baby_bear m batch (ofℕ at)) ≡ weighted_from weights items stride 1 m
  rs = ap (map val) (sym (mixed_r l at w m n stride items layout sized)) ∙ numbers-of-elements (weighted_from weights items stride 1 m) (weighted_from-below weights items stride 1 m)

  xs : map val (new_x baby_bear n batch (ofℕ at)) ≡ weighted_from weights items stride (1 + m) n
  xs = ap (map val) (sym (mixed-x l at w m n stride items layout sized)) ∙ numbers-of-elements (weighted_from weights items stride (1 + m) n) (weighted_from-below weights items stride (1 + m) n)

  -- All of them, and then the new e.
  whole : (e : ℕ) → set (weighted_from weights items stride 0 (suc (m + n))) 0 e
      ≡ e ∷ (weighted_from weights items stride 1 m ++ weighted_from weights items stride (1 + m) n)
  unfolding weighted_from
  whole e = ap (λ (t : List ℕ). e ∷ t) (build-append m n (λ b. f (0 + suc b))
      ∙ ap₂ (λ (s t : List ℕ). s ++ t) (build-cong m (λ b. f (0 + suc b)) (λ b. f (1 + b)) first) (build-cong n (λ b. f (0 + suc (m + b))) (λ b. f (1 + m + b)) second))
    where
      f : ℕ → ℕ
      f j = val (weighted weights items stride j)

      first : (b : ℕ) → b < m → f (0 + suc b) ≡ f (1 + b)
      first b h = let g : 0 + suc b ≡ 1 + b = omega arith in ap f g

      second : (b : ℕ) → b < n → f (0 + suc (m + b)) ≡ f (1 + m + b)
      second b h = let g : 0 + suc (m + b) ≡ 1 + m + b = omega arith in ap f g

  pub new-numbers : (quotient : List F) {combined : List ℕ} {s e : ℕ} → s ≡ 1 + m + n → combined ≡ weighted_from weights items stride 0 s
      → e ≡ val (new_e baby_bear batch quotient (ofℕ at))
      → set combined 0 e ≡ map val (new_e baby_bear batch quotient (ofℕ at) ∷ new_r baby_bear m batch (ofℕ at) ++ new_x baby_bear n batch (ofℕ at))
  new-numbers quotient {combined} {s} {e} es ec ee =
      let size : s ≡ suc (m + n) = omega (arith, es) in
      ap₂ (λ (t : List ℕ) (x : ℕ). set t 0 x) (ec ∙ ap (weighted_from weights items stride 0) size) ee
      ∙ whole (val (new_e baby_bear batch quotient (ofℕ at)))
      ∙ ap (λ (t : List ℕ). val (new_e baby_bear batch quotient (ofℕ at)) ∷ t)
      (sym (map-append val (new_r baby_bear m batch (ofℕ at)) (new_x baby_bear n batch (ofℕ at)) ∙ ap₂ (λ (s t : List ℕ). s ++ t) rs xs))
