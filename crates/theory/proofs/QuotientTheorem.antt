-- The quotient (paper 01, "Claims and folds"), over any field: there is one exactly if every item holds, and then one only,
-- which is the one that folding writes; and a list that fits at more than (l - 1) × (m + 2) different challenges is one.
use mathlib.Core.Path.{◌≡◌, sym, ◌∙◌, ap, ap₂, subst}
use mathlib.Core.Logic.{◌≢◌}
use mathlib.Core.List.{List, [], ◌∷◌, map}
use Prim.Native.Nat.{ℕ, suc, ◌+◌, ◌-◌, ◌*◌, ◌≤◌, ◌<◌}
use native.Mathlib.Nat.{mul-add}
use native.Mathlib.Omega.{arith}
use lib.ListN.{length, length-map}
use Rattle.algebra.specs.Ring.{Field}
use Rattle.algebra.specs.Lists.{All, Distinct, Differ, build}
use Rattle.algebra.specs.Polynomial.{eval_poly, PolyFn}
use Rattle.algebra.specs.Interpolation.{interpolate}
use Rattle.algebra.proofs.Solver.{x₀, x₁, x₂, x₃, x₄, ◌:+◌, ◌:*◌, ◌:-◌, :-◌, num, ring-from}
use Rattle.algebra.proofs.ListLaws.{length-build, All-build, All-member, map-agree, distinct-differ}
use Rattle.algebra.proofs.PolynomialLaws.{PolyFn-add}
use Rattle.algebra.proofs.RootBound.{equal-everywhere}
use Rattle.algebra.proofs.InterpolationLaws.{length-interpolate, interpolate-values, interpolation-unique}
use Rattle.algebra.proofs.VanishingLaws.{vanishing-nonzero, PolyFn-multiple}
use Rattle.algebra.proofs.FoldLaws.{fold-quotient, fold-values}
use Rattle.theory.specs.R1cs.{Circuit, value}
use Rattle.theory.specs.Items.{Item}
use Rattle.theory.specs.Combination.{node, Z, item_at, new_w, mix_e, new_e, quotient_size, Shaped, combined_value, IsQuotient, AllHold, samples, quotient_of}
use Rattle.theory.proofs.CombinationLaws.{mix_lists-at, PolyFn-mix}
use Rattle.theory.proofs.Degree.{PolyFn-combined_value}

-- The nodes and the quotient's coefficients together are one more than the degree of the value.
degree-split : (l m : ℕ) → 0 < l → l + quotient_size m l ≡ suc ((l - 1) * (m + 2))
degree-split l m h = omega (arith, mul-add (l - 1) m 1, mul-add (l - 1) m 2)

degree-enough : (l m : ℕ) → l ≤ suc ((l - 1) * (m + 2))
degree-enough l m = omega (arith, mul-add (l - 1) m 2)

module _ (F : Field) (M : Circuit F.ring.carrier) (m n k : ℕ) (items : List (Item F.ring.carrier)) (witnesses : ℕ → List F.ring.carrier) where
  open F use {ring as R, inv, mul-inv}
  open R use {carrier as K, zero as 𝟘, add as ◌⊕◌, mul as ◌⊗◌, neg as ⊝◌}

  infixl 60 ◌⊕◌
  infixl 70 ◌⊗◌
  infixl 80 ⊝◌
  abbrev l : ℕ
  l = length items

  abbrev degree : ℕ
  degree = (l - 1) * (m + 2)

  module _ (different : Differ (length items) (node F)) where
    -- A list of as many coefficients that fits at more than (l - 1) × (m + 2) different challenges is a quotient.
    pub quotient-from-many : 0 < length items → (q : List K) → length q ≡ quotient_size m (length items)
        → (alphas : List K) → (length items - 1) * (m + 2) < length alphas → Distinct alphas
        → All (λ a. combined_value F M m n k items witnesses a ≡ new_e F items q a) alphas → IsQuotient F M m n k items witnesses q
    quotient-from-many some q size alphas many distinct h = record {
      coefficients = size;
      identity = equal-everywhere F (PolyFn-combined_value F M m n k items witnesses different) PolyFn-new_e alphas many distinct h;
    }
      where
        PolyFn-new_e : PolyFn R degree (new_e F items q)
        PolyFn-new_e = PolyFn-add R (PolyFn-mix F l different degree (degree-enough l m) (λ i. (item_at F items i).e))
            (PolyFn-multiple R (build l (node F)) q degree (omega (arith, size, length-build l (node F), degree-split l m some)))

    module _ (shaped : Shaped F m n k items witnesses) where
      -- At node i the combined value is the value of item i.
      combined_value-at : (i : ℕ) → i < l → combined_value F M m n k items witnesses (node F i)
          ≡ value R M (item_at F items i).r (item_at F items i).x (witnesses i)
      combined_value-at i h =
          ap₂ (λ (r x : List K). value R M r x (new_w F k l witnesses (node F i)))
          (mix_lists-at F l different m (λ j. (item_at F items j).r) i h (shaped.item-r i h))
          (mix_lists-at F l different n (λ j. (item_at F items j).x) i h (shaped.item-x i h))
          ∙ ap (value R M (item_at F items i).r (item_at F items i).x) (mix_lists-at F l different k witnesses i h (shaped.witness i h))

      -- If every item holds, there is a quotient.
      pub quotient-exists : AllHold F M m n k items witnesses → (q : List K) × IsQuotient F M m n k items witnesses q
      quotient-exists hold = (found.0, record { coefficients = found.1; identity = found.2 })
        where
          found : (q : List K) × (length q ≡ quotient_size m l) × ((a : K) → combined_value F M m n k items witnesses a ≡ new_e F items q a)
          found = fold-quotient F l (node F) different (PolyFn-combined_value F M m n k items witnesses different) (λ i. (item_at F items i).e) (quotient_size m l)
              (degree-enough l m) (omega (arith, degree-split l m shaped.some_item)) (λ i h. combined_value-at i h ∙ hold i h)

      -- If there is a quotient, every item holds.
      pub quotient-holds : (q : List K) → IsQuotient F M m n k items witnesses q → AllHold F M m n k items witnesses
      quotient-holds q is i h = sym (combined_value-at i h) ∙ fold-values F l (node F) different (λ j. (item_at F items j).e) q is.identity i h

  -- The values that folding interpolates.
  abbrev quotient_at : K → K
  quotient_at a = (combined_value F M m n k items witnesses a ⊕ ⊝ mix_e F items a) ⊗ inv (Z F l a)

  abbrev points : List K
  points = samples F M m n k items witnesses

  length-values : length (map quotient_at points) ≡ length points
  length-values = length-map points quotient_at

  -- Where the field has as many elements outside the nodes, a quotient is the one that folding writes.
  module _ (apart : Differ (length items + quotient_size m (length items)) (node F)) where
    samples-distinct : Distinct points
    samples-distinct = distinct-differ (quotient_size m l) (λ i. node F (l + i)) (λ i j p q. apart (l + i) (l + j) (omega arith) (omega arith))

    samples-Z : All (λ a. Z F l a ≢ 𝟘) points
    samples-Z = All-build (λ a. Z F l a ≢ 𝟘) (quotient_size m l) (λ i. node F (l + i))
        (λ i h. vanishing-nonzero F (build l (node F)) (node F (l + i))
        (All-build (λ a. node F (l + i) ≢ a) l (node F) (λ j p e. apart j (l + i) (omega arith) (omega arith) (sym e))))

    pub quotient_is : (q : List K) → IsQuotient F M m n k items witnesses q → q ≡ quotient_of F M m n k items witnesses
    unfolding quotient_of
    quotient_is q is = interpolation-unique F points q (interpolate F points (map quotient_at points)) samples-distinct
        (is.coefficients ∙ sym (length-build (quotient_size m l) (λ i. node F (l + i))))
        (length-interpolate F points (map quotient_at points) length-values)
        (map-agree (eval_poly R q) quotient_at points (λ a h. at a (All-member (λ a. Z F l a ≢ 𝟘) points samples-Z h))
        ∙ sym (interpolate-values F points (map quotient_at points) samples-distinct length-values))
      where
        -- (value - sum of L_i × e_i) / Z is the quotient's value.
        at : (a : K) → Z F l a ≢ 𝟘 → eval_poly R q a ≡ quotient_at a
        at a nonzero = ring-from R (eval_poly R q a ∷ combined_value F M m n k items witnesses a ∷ mix_e F items a ∷ Z F l a ∷ inv (Z F l a) ∷ [])
            x₀ ((x₁ :- x₂) :* x₄) ((:- x₄, x₁, x₂ :+ x₃ :* x₀) ∷ (:- x₀, x₃ :* x₄, num 1) ∷ [])
            (is.identity a, (mul-inv (Z F l a) nonzero, tt)) tt

    -- If every item holds, folding writes a quotient.
    pub quotient-written : Shaped F m n k items witnesses → AllHold F M m n k items witnesses
        → IsQuotient F M m n k items witnesses (quotient_of F M m n k items witnesses)
    quotient-written shaped hold = subst (IsQuotient F M m n k items witnesses) (quotient_is some.0 some.1) some.1
      where
        some : (q : List K) × IsQuotient F M m n k items witnesses q
        some = quotient-exists (λ i j p h. apart i j p (omega arith)) shaped hold
