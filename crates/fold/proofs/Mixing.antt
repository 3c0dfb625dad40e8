-- Sums with the weights L_i: the combinations of the items' and the witnesses' numbers.
use mathlib.Core.Path.{◌≡◌, sym, ap, ap₂, ◌∙◌}
use mathlib.Core.List.{List, ◌++◌, map, map-append}
use Prim.Native.Nat.{ℕ, ◌+◌, ◌*◌, ◌≤◌, ◌<◌}
use native.Mathlib.Omega.{arith}
use lib.ListN.{length, get_or}
use Rattle.algebra.specs.Sums.{sum_to}
use Rattle.algebra.proofs.ListLaws.{length-build, get_or-build, build-cong, map-build}
use Rattle.algebra.proofs.SumLaws.{sum_to-cong}
use Rattle.field.specs.BabyBear.{baby_bear, R, F, val, ofℕ, 𝟘, ◌⊗◌}
use Rattle.field.specs.Numbers.{Below}
use Rattle.field.proofs.Laws.{ofℕ-val, below-p}
use Rattle.theory.specs.R1cs.{weighted_sum}
use Rattle.theory.specs.Combination.{L, mix, mix_lists, item_at, new_r, new_x, new_w, mix_e, combined_value}
use Rattle.theory.specs.Fp.{element_at, circuit, item_size, read_items, read_witness}
use Rattle.fold.specs.Weights.{lagrange_at, weighted, weighted_from}
use Rattle.fold.proofs.Reading.{length-items, numbers-first, item-inside, item-e, item-r, item-x, witness-w}

-- ---- sums for numbers from a place on

module _ (weights buffer : List ℕ) (stride start n : ℕ) where
  pub length-weighted_from : length (weighted_from weights buffer stride start n) ≡ n
  unfolding weighted_from
  length-weighted_from = length-build n (λ b. val (weighted weights buffer stride (start + b)))

  pub weighted_from-below : Below (weighted_from weights buffer stride start n)
  unfolding weighted_from
  weighted_from-below i h =
      below-p (weighted weights buffer stride (start + i))
      (get_or-build n (λ b. val (weighted weights buffer stride (start + b))) i 0 (omega (arith, length-weighted_from)))

-- ---- with the weights L_0 to L_(l - 1)

module _ (l at : ℕ) {weights : List ℕ} (w : weights ≡ lagrange_at l at) where
  pub length-weights : length weights ≡ l
  unfolding lagrange_at
  length-weights = ap length w ∙ length-build l (λ i. val (L baby_bear l i (ofℕ at)))

  weight_is : (i : ℕ) → i < l → ofℕ (get_or weights i 0) ≡ L baby_bear l i (ofℕ at)
  unfolding lagrange_at
  weight_is i h = ap (λ (ws : List ℕ). ofℕ (get_or ws i 0)) w ∙ ap ofℕ (get_or-build l (λ i. val (L baby_bear l i (ofℕ at))) i 0 h) ∙ ofℕ-val (L baby_bear l i (ofℕ at))

  pub weighted-mix : (buffer : List ℕ) (stride j : ℕ) (v : ℕ → F) → ((i : ℕ) → i < l → v i ≡ element_at buffer (i * stride + j))
      → weighted weights buffer stride j ≡ mix baby_bear l v (ofℕ at)
  unfolding weighted
  weighted-mix buffer stride j v e = ap (λ (n : ℕ). sum_to R n term) length-weights
      ∙ sum_to-cong R l term (λ i. L baby_bear l i (ofℕ at) ⊗ v i) (λ i h. ap₂ (λ (x y : F). x ⊗ y) (weight_is i h) (sym (e i h)))
    where
      term : ℕ → F
      term i = ofℕ (get_or weights i 0) ⊗ element_at buffer (i * stride + j)

  weighted_from-mix : (buffer : List ℕ) (stride start n : ℕ) (lists : ℕ → List F)
      → ((i : ℕ) → i < l → (j : ℕ) → j < n → get_or (lists i) j 𝟘 ≡ element_at buffer (i * stride + (start + j)))
      → map ofℕ (weighted_from weights buffer stride start n) ≡ mix_lists baby_bear n l lists (ofℕ at)
  unfolding weighted_from
  weighted_from-mix buffer stride start n lists e = map-build ofℕ n (λ b. val (weighted weights buffer stride (start + b)))
      ∙ build-cong n (λ b. ofℕ (val (weighted weights buffer stride (start + b)))) (λ b. mix baby_bear l (λ i. get_or (lists i) b 𝟘) (ofℕ at))
      (λ b h. ofℕ-val (weighted weights buffer stride (start + b)) ∙ weighted-mix buffer stride (start + b) (λ i. get_or (lists i) b 𝟘) (λ i g. e i g b h))

  -- The combined e's, r's, x's and w's.
  module _ (m n stride : ℕ) (items : List ℕ) (layout : 4 * stride ≡ item_size m n) (sized : length items ≡ l * item_size m n) where
    pub e-inside : (i : ℕ) → i < length weights → 4 * (i * stride + 0) + 4 ≤ length items
    e-inside i g = omega (arith, numbers-first m n l stride items layout sized, item-inside m n l stride items layout sized i (rw length-weights at g))

    pub mixed-e : weighted weights items stride 0 ≡ mix_e baby_bear (read_items m n l items) (ofℕ at)
    mixed-e = weighted-mix items stride 0 (λ i. (item_at baby_bear (read_items m n l items) i).e) (item-e m n l stride items layout sized)
        ∙ ap (λ (s : ℕ). mix baby_bear s (λ i. (item_at baby_bear (read_items m n l items) i).e) (ofℕ at)) (sym (length-items m n l items))

    pub mixed_r : map ofℕ (weighted_from weights items stride 1 m) ≡ new_r baby_bear m (read_items m n l items) (ofℕ at)
    mixed_r = weighted_from-mix items stride 1 m (λ i. (item_at baby_bear (read_items m n l items) i).r) (item-r m n l stride items layout sized)
        ∙ ap (λ (s : ℕ). mix_lists baby_bear m s (λ i. (item_at baby_bear (read_items m n l items) i).r) (ofℕ at)) (sym (length-items m n l items))

    pub mixed-x : map ofℕ (weighted_from weights items stride (1 + m) n) ≡ new_x baby_bear n (read_items m n l items) (ofℕ at)
    mixed-x = weighted_from-mix items stride (1 + m) n (λ i. (item_at baby_bear (read_items m n l items) i).x) (item-x m n l stride items layout sized)
        ∙ ap (λ (s : ℕ). mix_lists baby_bear n s (λ i. (item_at baby_bear (read_items m n l items) i).x) (ofℕ at)) (sym (length-items m n l items))

  pub mixed-w : (k : ℕ) (wits : List ℕ) → length wits ≡ l * (4 * k) → map ofℕ (weighted_from weights wits k 0 k) ≡ new_w baby_bear k l (read_witness k wits) (ofℕ at)
  mixed-w k wits sized = weighted_from-mix wits k 0 k (read_witness k wits) (witness-w k l wits sized)

  -- The value at the combined r, x and w.
  pub combined-is : (m n k : ℕ) (a b c items wits : List ℕ) {r z : List ℕ} → length items ≡ l * item_size m n → length wits ≡ l * (4 * k) → (stride : ℕ) → 4 * stride ≡ item_size m n → r ≡ weighted_from weights items stride 1 m
      → z ≡ weighted_from weights items stride (1 + m) n ++ weighted_from weights wits k 0 k
      → val (weighted_sum R (circuit a b c) (map ofℕ r) (map ofℕ z)) ≡ val (combined_value baby_bear (circuit a b c) m n k (read_items m n l items) (read_witness k wits) (ofℕ at))
  combined-is m n k a b c items wits sized wits_sized stride layout er ez =
      ap₂ (λ (s t : List F). val (weighted_sum R (circuit a b c) s t)) (ap (map ofℕ) er ∙ mixed_r m n stride items layout sized)
      (ap (map ofℕ) ez ∙ map-append ofℕ (weighted_from weights items stride (1 + m) n) (weighted_from weights wits k 0 k)
      ∙ ap₂ (λ (s t : List F). s ++ t) (mixed-x m n stride items layout sized)
      (mixed-w k wits wits_sized ∙ ap (λ (s : ℕ). new_w baby_bear k s (read_witness k wits) (ofℕ at)) (sym (length-items m n l items))))
