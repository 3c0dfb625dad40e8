-- The combined r, x and w in scratch lists: r for the first, the front and the rest of z for the others.
use mathlib.Core.Path.{◌≡◌, sym, ap, ap₂, subst, ◌∙◌}
use mathlib.Core.List.{List, ◌++◌, map, append-nil}
use Prim.Native.Nat.{ℕ, ◌+◌, ◌*◌, ◌-◌, ◌≤◌, ◌<◌}
use native.Mathlib.Omega.{arith}
use lib.ListN.{length, take, drop, replicate, length-append, length-drop, drop_of_length-le}
use lib.Seq.{length-take-le, take_at, drop_at}
use Rattle.field.specs.BabyBear.{baby_bear, R, val, ofℕ}
use Rattle.field.specs.Numbers.{Below}
use Rattle.r1cs.specs.Rows.{EntriesInside}
use Rattle.r1cs.specs.declared.list.List.{List as Listed}
use Rattle.theory.specs.R1cs.{weighted_sum}
use Rattle.theory.specs.Combination.{combined_value}
use Rattle.theory.specs.Fp.{circuit, item_size, read_items, read_witness}
use Rattle.fold.specs.Weights.{lagrange_at, weighted_from}
use Rattle.fold.specs.Fits.{Fits}
use Rattle.fold.specs.declared.basis.Weights.{Weights}
use Rattle.fold.proofs.Reading.{numbers-first, item-inside}
use Rattle.fold.proofs.Mixing.{length-weights, length-weighted_from, weighted_from-below, combined-is}

-- z with ys in the place of its first n; what lies behind them; and that with ws in its place.
abbrev pub behind : ℕ → List ℕ → List ℕ → List ℕ
behind n ys z = take (length (ys ++ drop n z) - n) (drop n (ys ++ drop n z))

abbrev pub joined : ℕ → List ℕ → List ℕ → List ℕ → List ℕ
joined n ys ws z = take n (ys ++ drop n z) ++ (ws ++ drop (length (ys ++ drop n z) - n) (drop n (ys ++ drop n z)))

module _ (n k : ℕ) (ys z : List ℕ) (hy : length ys ≡ n) (hz : length z ≡ n + k) where
  whole : length (ys ++ drop n z) ≡ n + k
  whole = length-append ys (drop n z) ∙ omega (arith, length-drop n z)

  rest : drop n (ys ++ drop n z) ≡ drop n z
  rest = drop_at ys (drop n z) n hy

  length-behind : length (behind n ys z) ≡ k
  length-behind = ap₂ (λ (s : ℕ) (l : List ℕ). length (take (s - n) l)) whole rest ∙ length-take-le (n + k - n) (drop n z) (omega (arith, length-drop n z)) ∙ omega arith

  joined_is : (ws : List ℕ) → joined n ys ws z ≡ ys ++ ws
  joined_is ws = ap₂ (λ (s t : List ℕ). s ++ (ws ++ t)) (take_at ys (drop n z) n hy)
      (ap₂ (λ (s : ℕ) (l : List ℕ). drop (s - n) l) whole rest ∙ drop_of_length-le (drop n z) {i = n + k - n} (omega (arith, length-drop n z)))
      ∙ ap (λ (t : List ℕ). ys ++ t) (append-nil ws)

-- r and z as they lie before they are filled.
abbrev pub scratch-r : Listed → List ℕ
scratch-r s = take s.sizes.m (replicate 6 0)

abbrev pub scratch-z : Listed → List ℕ
scratch-z s = take (s.sizes.n + s.sizes.k) (replicate 128 0)

module _ (s : Listed) (v : Weights) (many : v.l ≡ s.l) {weights : List ℕ} (w : weights ≡ lagrange_at v.l v.at) (stride : ℕ) (layout : 4 * stride ≡ item_size s.sizes.m s.sizes.n) where
  weights-are : weights ≡ lagrange_at s.l v.at
  weights-are = w ∙ ap (λ (l : ℕ). lagrange_at l v.at) many

  weights-many : length weights ≡ s.l
  weights-many = length-weights s.l v.at weights-are

  length-r : length (scratch-r s) ≡ s.sizes.m
  length-r = length-take-le s.sizes.m (replicate 6 0) s.sizes.m_most

  length-z : length (scratch-z s) ≡ s.sizes.n + s.sizes.k
  length-z = length-take-le (s.sizes.n + s.sizes.k) (replicate 128 0) (omega arith)

  front : length (take s.sizes.n (scratch-z s)) ≡ s.sizes.n
  front = length-take-le s.sizes.n (scratch-z s) (omega (arith, length-z))

  -- There is a weight, and the numbers that are combined lie in the buffers.
  weighed : 0 < length weights
  weighed = omega (arith, weights-many)

  item-within : (i : ℕ) → i < length weights → 4 * (i * stride + (1 + s.sizes.m + s.sizes.n)) ≤ length s.items.now
  item-within i h =
      omega (arith, numbers-first s.sizes.m s.sizes.n s.l stride s.items.now layout s.items_length, item-inside s.sizes.m s.sizes.n s.l stride s.items.now layout s.items_length i (rw weights-many at h))

  pub r-inside : (0 < length weights) × ((i : ℕ) → i < length weights → 4 * (i * stride + 1 + length (scratch-r s)) ≤ length s.items.now)
  r-inside = (weighed, λ i h. omega (arith, item-within i h, length-r))

  pub x-inside : (0 < length weights) × ((i : ℕ) → i < length weights → 4 * (i * stride + (1 + s.sizes.m) + length (take s.sizes.n (scratch-z s))) ≤ length s.items.now)
  x-inside = (weighed, λ i h. omega (arith, item-within i h, front))

  module _ {ys : List ℕ} (ey : ys ≡ weighted_from weights s.items.now stride (1 + s.sizes.m) (length (take s.sizes.n (scratch-z s)))) where
    length-x : length ys ≡ s.sizes.n
    length-x = ap length ey ∙ length-weighted_from weights s.items.now stride (1 + s.sizes.m) (length (take s.sizes.n (scratch-z s))) ∙ front

    length-w : length (behind s.sizes.n ys (scratch-z s)) ≡ s.sizes.k
    length-w = length-behind s.sizes.n s.sizes.k ys (scratch-z s) length-x length-z

    module _ {rs ws : List ℕ} (er : rs ≡ weighted_from weights s.items.now stride 1 (length (scratch-r s))) (ew : ws ≡ weighted_from weights s.wits.now s.sizes.k 0 (length (behind s.sizes.n ys (scratch-z s)))) where
      r-is : rs ≡ weighted_from weights s.items.now stride 1 s.sizes.m
      r-is = er ∙ ap (weighted_from weights s.items.now stride 1) length-r

      z-is : joined s.sizes.n ys ws (scratch-z s) ≡ weighted_from weights s.items.now stride (1 + s.sizes.m) s.sizes.n ++ weighted_from weights s.wits.now s.sizes.k 0 s.sizes.k
      z-is = joined_is s.sizes.n s.sizes.k ys (scratch-z s) length-x length-z ws
          ∙ ap₂ (λ (s t : List ℕ). s ++ t) (ey ∙ ap (weighted_from weights s.items.now stride (1 + s.sizes.m)) front) (ew ∙ ap (weighted_from weights s.wits.now s.sizes.k 0) length-w)

      length-joined : length (joined s.sizes.n ys ws (scratch-z s)) ≡ s.sizes.n + s.sizes.k
      length-joined = ap length z-is ∙ length-append (weighted_from weights s.items.now stride (1 + s.sizes.m) s.sizes.n) (weighted_from weights s.wits.now s.sizes.k 0 s.sizes.k)
          ∙ ap₂ ◌+◌ (length-weighted_from weights s.items.now stride (1 + s.sizes.m) s.sizes.n) (length-weighted_from weights s.wits.now s.sizes.k 0 s.sizes.k)

      pub r-fits : (length rs ≤ 6) × Below rs
      r-fits = (
        omega (arith, ap length r-is, length-weighted_from weights s.items.now stride 1 s.sizes.m, s.sizes.m_most),
        subst Below (sym r-is) (weighted_from-below weights s.items.now stride 1 s.sizes.m),
      )

      pub entries-inside : {a b c : List ℕ} → Fits s.sizes.n s.sizes.k a b c
          → EntriesInside 64 (length (joined s.sizes.n ys ws (scratch-z s))) a × EntriesInside 64 (length (joined s.sizes.n ys ws (scratch-z s))) b × EntriesInside 64 (length (joined s.sizes.n ys ws (scratch-z s))) c
      entries-inside f = rw length-joined (f.inside-a, f.inside-b, f.inside-c)

      pub value-is : {result : ℕ} → result ≡ val (weighted_sum R (circuit s.circuit.a.now s.circuit.b.now s.circuit.c.now) (map ofℕ rs) (map ofℕ (joined s.sizes.n ys ws (scratch-z s))))
          → result ≡ val (combined_value baby_bear (circuit s.circuit.a.now s.circuit.b.now s.circuit.c.now) s.sizes.m s.sizes.n s.sizes.k (read_items s.sizes.m s.sizes.n s.l s.items.now) (read_witness s.sizes.k s.wits.now) (ofℕ v.at))
      value-is e = e ∙ combined-is s.l v.at weights-are s.sizes.m s.sizes.n s.sizes.k s.circuit.a.now s.circuit.b.now s.circuit.c.now s.items.now s.wits.now s.items_length s.wits_length stride layout r-is z-is
