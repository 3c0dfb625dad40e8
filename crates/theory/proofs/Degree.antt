-- The degree of the value (paper 01, "Claims and folds"): where the numbers of r, x and w are polynomial functions of degree d
-- of one variable, the weights have degree m × d, (Az)(Bz) has degree 2d, and the value has degree m × d + 2d. So the value at the
-- combined r, x and w has degree (l - 1) × (m + 2) in the challenge.
use mathlib.Core.Path.{◌≡◌, ◌∙◌, ap}
use mathlib.Core.Bool.{Bool, true, false}
use mathlib.Core.List.{List, [], ◌∷◌, ◌++◌}
use Prim.Native.Nat.{ℕ, zero, suc, ◌+◌, ◌-◌, ◌*◌, ◌^◌, ◌≤◌, ◌<◌}
use native.Mathlib.Nat.{mul-add, mul_comm, suc-mul}
use native.Mathlib.Omega.{arith}
use native.Mathlib.Decide.{dec_lt}
use lib.Dec.{eqb}
use lib.ListN.{length, get_or, get_or-append, get_or-eq_default}
use lib.Seq.{get_or-append-add}
use Rattle.algebra.specs.Ring.{CommRing, Field}
use Rattle.algebra.specs.Lists.{Differ}
use Rattle.algebra.specs.Sums.{sum_to, prod_to}
use Rattle.algebra.specs.Polynomial.{PolyFn}
use Rattle.algebra.proofs.PolynomialLaws.{total, PolyFn-const, PolyFn-weaken, PolyFn-cong, PolyFn-add, PolyFn-sub, PolyFn-mul, PolyFn-scale, PolyFn-sum_to, PolyFn-prod_to}
use Rattle.theory.specs.R1cs.{Entry, Circuit, bit, only_if, row_sum, residual, bit_weight, weight, value}
use Rattle.theory.specs.Items.{Item}
use Rattle.theory.specs.Combination.{node, item_at, mix_lists, new_r, new_x, new_w, combined_value}
use Rattle.theory.proofs.CombinationLaws.{length-mix_lists, get_or-mix_lists, PolyFn-mix}

-- m factors of degree d have degree m × d together.
total-same : (m d : ℕ) → total m (λ b. d) ≡ m * d
total-same zero d = omega arith
total-same (suc m) d = omega (arith, total-same m d, suc-mul m d)

module _ (R : CommRing) where
  open R use {carrier as K, zero as 𝟘, one as 𝟙, mul as ◌⊗◌}

  infixl 70 ◌⊗◌
  PolyFn-only_if : (t : Bool) {d : ℕ} {f : K → K} → PolyFn R d f → PolyFn R d (λ a. only_if R t (f a))
  PolyFn-only_if true p = p
  PolyFn-only_if false {d} p = PolyFn-const R 𝟘 d

  PolyFn-bit_weight : (b : ℕ) {d : ℕ} {f : K → K} → PolyFn R d f → PolyFn R d (λ a. bit_weight R b (f a))
  PolyFn-bit_weight zero {d} p = PolyFn-sub R (PolyFn-const R 𝟙 d) p
  PolyFn-bit_weight (suc b) p = p

  -- The numbers of a list that depends on a are polynomial functions of a, of degree d.
  abbrev pub PolyList : ℕ → (K → List K) → Type 0
  PolyList d s = (i : ℕ) → PolyFn R d (λ a. get_or (s a) i 𝟘)

  module _ (d : ℕ) where
    -- Two lists, one after the other, of which the first has a fixed length.
    PolyList-append : (n : ℕ) (s t : K → List K) → ((a : K) → length (s a) ≡ n) → PolyList d s → PolyList d t → PolyList d (λ a. s a ++ t a)
    PolyList-append n s t size hs ht i = go (dec_lt i n)
      where
        go : Dec (i < n) → PolyFn R d (λ a. get_or (s a ++ t a) i 𝟘)
        go (yes h) = PolyFn-cong R (λ a. get_or-append (s a) (t a) 𝟘 i (omega (arith, size a))) (hs i)
        go (no h) = PolyFn-cong R
            (λ a. ap (λ (j : ℕ). get_or (s a ++ t a) j 𝟘) (omega (arith, size a)) ∙ get_or-append-add (s a) (t a) (i - n) 𝟘)
            (ht (i - n))

    module _ (M : Circuit K) (z : K → List K) (hz : PolyList d z) where
      PolyFn-row_sum : (es : List (Entry K)) (j : ℕ) → PolyFn R d (λ a. row_sum R es (z a) j)
      PolyFn-row_sum [] j = PolyFn-const R 𝟘 d
      PolyFn-row_sum (e ∷ es) j = PolyFn-add R (PolyFn-only_if (eqb e.row j) (PolyFn-scale R e.value (hz e.column))) (PolyFn-row_sum es j)

      PolyFn-residual : (j : ℕ) → PolyFn R (d + d) (λ a. residual R M (z a) j)
      PolyFn-residual j = PolyFn-sub R (PolyFn-mul R (PolyFn-row_sum M.A j) (PolyFn-row_sum M.B j))
          (PolyFn-weaken R (d + d) (omega arith) (PolyFn-row_sum M.C j))

    module _ (m : ℕ) (r : K → List K) (size : (a : K) → length (r a) ≡ m) (hr : PolyList d r) where
      PolyFn-weight : (j : ℕ) → PolyFn R (m * d) (λ a. weight R (r a) j)
      PolyFn-weight j = PolyFn-weaken R (m * d) (omega (arith, total-same m d))
          (PolyFn-cong R (λ a. ap (λ (s : ℕ). prod_to R s (λ b. bit_weight R (bit b j) (get_or (r a) b 𝟘))) (size a))
          (PolyFn-prod_to R (λ b. d) m (λ b a. bit_weight R (bit b j) (get_or (r a) b 𝟘)) (λ b h. PolyFn-bit_weight (bit b j) (hr b))))

      -- The value, for r of m numbers and x of n.
      pub PolyFn-value : (M : Circuit K) (n : ℕ) (x w : K → List K) → ((a : K) → length (x a) ≡ n) → PolyList d x → PolyList d w
          → PolyFn R (m * d + (d + d)) (λ a. value R M (r a) (x a) (w a))
      PolyFn-value M n x w size-x hx hw =
          PolyFn-cong R (λ a. ap (λ (s : ℕ). sum_to R (2 ^ s) (λ j. weight R (r a) j ⊗ residual R M (x a ++ w a) j)) (size a))
          (PolyFn-sum_to R (m * d + (d + d)) (2 ^ m) (λ j a. weight R (r a) j ⊗ residual R M (x a ++ w a) j)
          (λ j h. PolyFn-mul R (PolyFn-weight j) (PolyFn-residual M (λ a. x a ++ w a) (PolyList-append n x w size-x hx hw) j)))

module _ (F : Field) (l : ℕ) (different : Differ l (node F)) where
  open F use {ring as R}
  open R use {carrier as K, zero as 𝟘}

  -- The numbers of combined lists have a degree below l.
  pub PolyList-mix_lists : (d : ℕ) → l ≤ suc d → (size : ℕ) (lists : ℕ → List K) → PolyList R d (mix_lists F size l lists)
  PolyList-mix_lists d enough size lists b = go (dec_lt b size)
    where
      go : Dec (b < size) → PolyFn R d (λ a. get_or (mix_lists F size l lists a) b 𝟘)
      go (yes h) = PolyFn-cong R (λ a. get_or-mix_lists F size l lists a b h) (PolyFn-mix F l different d enough (λ i. get_or (lists i) b 𝟘))
      go (no h) = PolyFn-cong R (λ a. get_or-eq_default (mix_lists F size l lists a) 𝟘 (omega (arith, length-mix_lists F size l lists a)))
          (PolyFn-const R 𝟘 d)

module _ (F : Field) (M : Circuit F.ring.carrier) (m n k : ℕ) (items : List (Item F.ring.carrier)) (witnesses : ℕ → List F.ring.carrier) where
  pub PolyFn-combined_value : Differ (length items) (node F) → PolyFn F.ring ((length items - 1) * (m + 2)) (combined_value F M m n k items witnesses)
  PolyFn-combined_value different = PolyFn-weaken F.ring (d * (m + 2)) (omega (arith, mul-add d m 2, mul_comm m d))
      (PolyFn-value F.ring d m (new_r F m items) (length-mix_lists F m (length items) (λ i. (item_at F items i).r))
      (PolyList-mix_lists F (length items) different d (omega arith) m (λ i. (item_at F items i).r))
      M n (new_x F n items) (new_w F k (length items) witnesses) (length-mix_lists F n (length items) (λ i. (item_at F items i).x))
      (PolyList-mix_lists F (length items) different d (omega arith) n (λ i. (item_at F items i).x))
      (PolyList-mix_lists F (length items) different d (omega arith) k witnesses))
    where
      d : ℕ
      d = length items - 1
