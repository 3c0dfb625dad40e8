-- Interpolation in two passes: the divided differences, and from the last to the first the expansion of Newton's form.
use mathlib.Core.Path.{◌≡◌, refl, sym, ap, ap₂, subst, ◌∙◌}
use mathlib.Core.List.{List, [], ◌∷◌, ◌++◌, map, append-nil, append_assoc}
use Prim.Native.Nat.{ℕ, suc, ◌+◌, ◌-◌, ◌≤◌, ◌<◌}
use native.Mathlib.Nat.{sub-add_cancel}
use native.Mathlib.Numerals.{add-one}
use native.Mathlib.Omega.{arith}
use lib.ListN.{length, get_or, take, drop, length-drop, drop_of_length-le, get_or-append}
use lib.Seq.{length-take-le, take_all, take-suc, take_at, drop_at, take-append-le, take-take, get_or-take, get_or-drop}
use Rattle.algebra.specs.Ring.{Field}
use Rattle.algebra.specs.Lists.{build}
use Rattle.algebra.specs.Interpolation.{slopes, step, interpolate}
use Rattle.algebra.proofs.ListLaws.{length-build, get_or-build}
use Rattle.algebra.proofs.Solver.{x₀, x₁, x₂, ◌:+◌, ◌:-◌, ring-eq}
use Rattle.field.specs.BabyBear.{p, baby_bear, R, F, val, ofℕ, 𝟘, ◌⊖◌}
use Rattle.field.proofs.Laws.{val-small, ofℕ-add}
use Rattle.fold.specs.Newton.{slopes_from, expand_from}
use Rattle.field.proofs.Numbers.{elements-of-numbers}
use Rattle.fold.proofs.Newton.{rest, drop-build, slopes_at, slopes_from-left, expand_from-left}

module _ (F : Field) where
  open F use {ring, inv}
  open ring use {carrier as K, zero as zero_k, add as ◌+K◌, mul as ◌*K◌, neg as -K◌}

  infixl 60 ◌+K◌
  infixl 70 ◌*K◌
  infixl 80 -K◌
  -- The divided differences: the coefficients of Newton's form.
  abbrev pub differences : List K → List K → List K
  differences [] vs = []
  differences (a ∷ ps) [] = []
  differences (a ∷ ps) (v ∷ vs) = v ∷ differences ps (slopes F a v ps vs)

  -- The coefficients of the polynomial with the Newton form cs.
  abbrev pub expansion : List K → List K → List K
  expansion [] cs = []
  expansion (a ∷ ps) [] = []
  expansion (a ∷ ps) (c ∷ cs) = step F a c (expansion ps cs)

  pub two-passes : (ps vs : List K) → expansion ps (differences ps vs) ≡ interpolate F ps vs
  two-passes [] vs = refl
  two-passes (a ∷ ps) [] = refl
  two-passes (a ∷ ps) (v ∷ vs) = ap (step F a v) (two-passes ps (slopes F a v ps vs))

  -- Slopes depend on the differences of the points only.
  pub slopes-shift : (a b v : K) (ps qs vs : List K) → length ps ≡ length qs → ((k : ℕ) → k < length ps → get_or ps k zero_k +K -K a ≡ get_or qs k zero_k +K -K b)
      → slopes F a v ps vs ≡ slopes F b v qs vs
  slopes-shift a b v [] [] vs l h = refl
  slopes-shift a b v [] (q ∷ qs) vs l h = absurd (omega arith)
  slopes-shift a b v (p ∷ ps) [] vs l h = absurd (omega arith)
  slopes-shift a b v (p ∷ ps) (q ∷ qs) [] l h = refl
  slopes-shift a b v (p ∷ ps) (q ∷ qs) (w ∷ vs) l h = ap₂ (λ (y : K) (t : List K). (w +K -K v) *K inv y ∷ t) (h 0 (omega arith))
      (slopes-shift a b v ps qs vs (omega arith) (λ k j. h (suc k) (omega arith)))

-- ---- the first pass
module _ (first : ℕ) where
  -- The first n numbers from `first` on.
  abbrev pub points : ℕ → List F
  points n = build n (λ k. ofℕ (first + k))

  -- Slopes between consecutive numbers are those between the numbers from 0 on.
  slopes-consecutive : (n i : ℕ) (v : F) (vs : List F) → i < n
      → slopes baby_bear (ofℕ i) v (drop (i + 1) (build n ofℕ)) vs ≡ slopes baby_bear (ofℕ (first + i)) v (drop (i + 1) (points n)) vs
  slopes-consecutive n i v vs h = slopes-shift baby_bear (ofℕ i) (ofℕ (first + i)) v (drop (i + 1) (build n ofℕ)) (drop (i + 1) (points n)) vs
      (omega (arith, left, length-drop (i + 1) (points n), length-build n (λ k. ofℕ (first + k))))
      (λ k l. same k (omega (arith, l, left)))
    where
      left : length (drop (i + 1) (build n ofℕ)) ≡ n - (i + 1)
      left = length-drop (i + 1) (build n ofℕ) ∙ ap (λ (m : ℕ). m - (i + 1)) (length-build n ofℕ)

      same : (k : ℕ) → i + 1 + k < n → get_or (drop (i + 1) (build n ofℕ)) k 𝟘 ⊖ ofℕ i ≡ get_or (drop (i + 1) (points n)) k 𝟘 ⊖ ofℕ (first + i)
      same k l = ap (λ (x : F). x ⊖ ofℕ i) (get_or-drop (i + 1) (build n ofℕ) k 𝟘 ∙ get_or-build n ofℕ (i + 1 + k) 𝟘 l)
          ∙ ring-eq R (ofℕ first ∷ ofℕ (i + 1 + k) ∷ ofℕ i ∷ []) (x₁ :- x₂) ((x₀ :+ x₁) :- (x₀ :+ x₂)) tt
          ∙ ap₂ (λ (x y : F). x ⊖ y) (sym (get_or-drop (i + 1) (points n) k 𝟘 ∙ get_or-build n (λ j. ofℕ (first + j)) (i + 1 + k) 𝟘 l ∙ ofℕ-add first (i + 1 + k)))
          (sym (ofℕ-add first i))

  -- What the pass makes of the list from index i on.
  abbrev pub differences_left : ℕ → List ℕ → List ℕ
  differences_left i xs = take i xs ++ map val (differences baby_bear (drop i (points (length xs))) (map ofℕ (drop i xs)))

  pub differences-more : (i : ℕ) (xs ys : List ℕ) → i < length xs → get_or xs i 0 < p → length ys ≡ length xs → ys ≡ slopes_from i xs
      → differences_left (i + 1) ys ≡ differences_left i xs
  differences-more i xs ys h b l e = ap₂ (λ (s t : List ℕ). s ++ map val (differences baby_bear (drop (i + 1) (points (length ys))) (map ofℕ t))) before behind
      ∙ ap₂ (λ (n : ℕ) (t : List F). take (i + 1) xs ++ map val (differences baby_bear (drop (i + 1) (points n)) t)) l
      (elements-of-numbers (slopes_at i v (i + 1) xs) ∙ slopes-consecutive (length xs) i (ofℕ v) (map ofℕ (drop (i + 1) xs)) h)
      ∙ ap (λ (n : ℕ). take n xs ++ map val later) (add-one i)
      ∙ ap (λ (s : List ℕ). s ++ map val later) (take-suc xs i 0 h)
      ∙ append_assoc (take i xs) (v ∷ []) (map val later)
      ∙ ap (λ (x : ℕ). take i xs ++ x ∷ map val later) (sym (val-small b))
      ∙ ap₂ (λ (ps : List F) (t : List ℕ). take i xs ++ map val (differences baby_bear ps (map ofℕ t))) (sym (drop-build (length xs) (λ k. ofℕ (first + k)) i h)) (sym (rest xs i h))
    where
      v : ℕ
      v = get_or xs i 0

      written : ys ≡ take (i + 1) xs ++ map val (slopes_at i v (i + 1) xs)
      written = e ∙ sym (slopes_from-left i xs)

      size : length (take (i + 1) xs) ≡ i + 1
      size = length-take-le (i + 1) xs (omega arith)

      before : take (i + 1) ys ≡ take (i + 1) xs
      before = ap (take (i + 1)) written ∙ take_at (take (i + 1) xs) (map val (slopes_at i v (i + 1) xs)) (i + 1) size

      behind : drop (i + 1) ys ≡ map val (slopes_at i v (i + 1) xs)
      behind = ap (drop (i + 1)) written ∙ drop_at (take (i + 1) xs) (map val (slopes_at i v (i + 1) xs)) (i + 1) size

      later : List F
      later = differences baby_bear (drop (i + 1) (points (length xs))) (slopes baby_bear (ofℕ (first + i)) (ofℕ v) (drop (i + 1) (points (length xs))) (map ofℕ (drop (i + 1) xs)))

  pub differences-all : (i : ℕ) (xs : List ℕ) → length xs ≤ i → differences_left i xs ≡ xs
  differences-all i xs h = ap₂ (λ (s : List ℕ) (ps : List F). s ++ map val (differences baby_bear ps (map ofℕ (drop i xs)))) (take_all i xs h)
      (drop_of_length-le (points (length xs)) {i = i} (omega (arith, length-build (length xs) (λ k. ofℕ (first + k))))) ∙ append-nil xs

  -- ---- the second pass, over the differences ds
  module _ (ds : List ℕ) where
    -- From index i on the expansion stands, and before it the differences.
    abbrev pub Expanded : ℕ → List ℕ → Type 0
    Expanded i xs = xs ≡ take i ds ++ map val (expansion baby_bear (drop i (points (length ds))) (map ofℕ (drop i ds)))

    pub expanded-none : (i : ℕ) → length ds ≤ i → Expanded i ds
    expanded-none i h = sym (ap₂ (λ (s : List ℕ) (ps : List F). s ++ map val (expansion baby_bear ps (map ofℕ (drop i ds)))) (take_all i ds h)
        (drop_of_length-le (points (length ds)) {i = i} (omega (arith, length-build (length ds) (λ k. ofℕ (first + k))))) ∙ append-nil ds)

    expanded-step : (i : ℕ) (xs ys : List ℕ) → i < length ds → Expanded (i + 1) xs → ys ≡ expand_from i (first + i) xs → Expanded i ys
    expanded-step i xs ys h r e = e ∙ sym (expand_from-left i (first + i) xs)
        ∙ ap₂ (λ (s : List ℕ) (x : ℕ). s ++ map val (step baby_bear (ofℕ (first + i)) (ofℕ x) (map ofℕ (drop (i + 1) xs)))) before here
        ∙ ap (λ (t : List F). take i ds ++ map val (step baby_bear (ofℕ (first + i)) (ofℕ (get_or ds i 0)) t)) (ap (map ofℕ) behind ∙ elements-of-numbers later)
        ∙ ap₂ (λ (ps : List F) (t : List ℕ). take i ds ++ map val (expansion baby_bear ps (map ofℕ t))) (sym (drop-build (length ds) (λ k. ofℕ (first + k)) i h)) (sym (rest ds i h))
      where
        later : List F
        later = expansion baby_bear (drop (i + 1) (points (length ds))) (map ofℕ (drop (i + 1) ds))

        size : length (take (i + 1) ds) ≡ i + 1
        size = length-take-le (i + 1) ds (omega arith)

        before : take i xs ≡ take i ds
        before = ap (take i) r ∙ take-append-le i (take (i + 1) ds) (map val later) (omega (arith, size)) ∙ take-take i (i + 1) ds (omega arith)

        here : get_or xs i 0 ≡ get_or ds i 0
        here = ap (λ (s : List ℕ). get_or s i 0) r ∙ get_or-append (take (i + 1) ds) (map val later) 0 i (omega (arith, size)) ∙ get_or-take (i + 1) ds i 0 (omega arith)

        behind : drop (i + 1) xs ≡ map val later
        behind = ap (drop (i + 1)) r ∙ drop_at (take (i + 1) ds) (map val later) (i + 1) size

    pub expanded-more : (m : ℕ) (xs ys : List ℕ) → 0 < m → m ≤ length ds → Expanded m xs → ys ≡ expand_from (m - 1) (first + (m - 1)) xs → Expanded (m - 1) ys
    expanded-more m xs ys z h r e = expanded-step (m - 1) xs ys (omega arith) (subst (λ (k : ℕ). Expanded k xs) (sym (sub-add_cancel z)) r) e

  -- Both passes.
  pub interpolated : (m : ℕ) (vs ds xs : List ℕ) → m ≡ 0 → length ds ≡ length vs → ds ≡ differences_left 0 vs → Expanded ds m xs
      → xs ≡ map val (interpolate baby_bear (points (length vs)) (map ofℕ vs))
  interpolated m vs ds xs z l d r = subst (λ (k : ℕ). Expanded ds k xs) z r
      ∙ ap₂ (λ (n : ℕ) (t : List F). map val (expansion baby_bear (points n) t)) l (ap (map ofℕ) d ∙ elements-of-numbers (differences baby_bear (points (length vs)) (map ofℕ vs)))
      ∙ ap (map val) (two-passes baby_bear (points (length vs)) (map ofℕ vs))
