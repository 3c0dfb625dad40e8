-- The Lagrange basis over l different nodes of a field: L_i is 1 at node i and 0 at the other nodes, of degree below l; the basis sums to 1.
-- Assumes nothing.
use mathlib.Core.Path.{◌≡◌, refl, sym, ◌∙◌, ap}
use mathlib.Core.Logic.{◌≢◌, ◌⊎◌, inl, inr}
use mathlib.Core.Bool.{Bool, true, false}
use mathlib.Core.List.{[], ◌∷◌}
use Prim.Native.Nat.{ℕ, zero, suc, ◌+◌, ◌-◌, ◌≤◌, ◌<◌}
use native.Mathlib.Omega.{arith}
use native.Mathlib.Decide.{dec_lt}
use lib.Dec.{T, eqb, eqb→eq, eqb_refl}
use Rattle.algebra.specs.Ring.{Field}
use Rattle.algebra.specs.Lists.{All, Differ, build}
use Rattle.algebra.specs.Polynomial.{PolyFn}
use Rattle.algebra.specs.Sums.{sum_to}
use Rattle.algebra.specs.Lagrange.{factor, basis, combine}
use Rattle.algebra.proofs.RingLaws.{eq-of-sub}
use Rattle.algebra.proofs.Solver.{x₀, x₁, x₂, ◌:*◌, ◌:-◌, num, ring-eq}
use Rattle.algebra.proofs.ListLaws.{length-build, distinct-differ, All-build}
use Rattle.algebra.proofs.SumLaws.{sum_to-cong, sum_to-single, prod_to-cong, prod_to-one, prod_to-zero}
use Rattle.algebra.proofs.PolynomialLaws.{total, PolyFn-const, PolyFn-id, PolyFn-sub, PolyFn-weaken, PolyFn-cong, PolyFn-scale, PolyFn-sum_to, PolyFn-prod_to}
use Rattle.algebra.proofs.RootBound.{equal-everywhere}

-- The two answers of a test for equality.
eqb-split : (i j : ℕ) → ((eqb i j ≡ true) × (i ≡ j)) ⊎ ((eqb i j ≡ false) × (i ≢ j))
eqb-split i j = go (eqb i j) (eqb→eq i j) (λ e. rw e (eqb_refl j))
  where
    go : (b : Bool) → (T b → i ≡ j) → (i ≡ j → T b) → ((b ≡ true) × (i ≡ j)) ⊎ ((b ≡ false) × (i ≢ j))
    go true h k = inl (refl, h tt)
    go false h k = inr (refl, k)

-- 0 if the test holds, and else 1.
abbrev pub degree_if : Bool → ℕ
degree_if true = 0
degree_if false = 1

-- Of the numbers below n, all but i count.
total-below : (i n : ℕ) → n ≤ i → total n (λ j. degree_if (eqb i j)) ≡ n
total-below i zero h = refl
total-below i (suc n) h = go (eqb-split i n) (total-below i n (omega arith))
  where
    go : ((eqb i n ≡ true) × (i ≡ n)) ⊎ ((eqb i n ≡ false) × (i ≢ n)) → total n (λ j. degree_if (eqb i j)) ≡ n → total n (λ j. degree_if (eqb i j)) + degree_if (eqb i n) ≡ suc n
    go (inl e) ih = absurd (omega (arith, e.1))
    go (inr e) ih = omega (arith, ap degree_if e.0)

total-but-one : (i n : ℕ) → i < n → suc (total n (λ j. degree_if (eqb i j))) ≡ n
total-but-one i zero h = absurd (omega arith)
total-but-one i (suc n) h = go (eqb-split i n) (total-but-one i n)
  where
    go : ((eqb i n ≡ true) × (i ≡ n)) ⊎ ((eqb i n ≡ false) × (i ≢ n)) → (i < n → suc (total n (λ j. degree_if (eqb i j))) ≡ n)
        → suc (total n (λ j. degree_if (eqb i j)) + degree_if (eqb i n)) ≡ suc n
    go (inl e) ih = omega (arith, ap degree_if e.0, total-below i n (omega (arith, e.1)))
    go (inr e) ih = omega (arith, ap degree_if e.0, ih (omega (arith, e.1)))

module _ (F : Field) where
  open F use {ring as R, inv, mul-inv}
  open R use {carrier as K, zero as 𝟘, one as 𝟙, add as ◌⊕◌, mul as ◌⊗◌, neg as ⊝◌, mul-one}

  infixl 60 ◌⊕◌
  infixl 70 ◌⊗◌
  infixl 80 ⊝◌
  PolyFn-factor : (t : Bool) (a b : K) → PolyFn R (degree_if t) (factor F t a b)
  PolyFn-factor true a b = PolyFn-const R 𝟙 0
  PolyFn-factor false a b = PolyFn-cong R (λ x. ring-eq R (x ∷ b ∷ inv (a ⊕ ⊝ b) ∷ []) ((x₀ :- x₁) :* x₂) (x₂ :* (x₀ :- x₁)) tt)
      (PolyFn-scale R (inv (a ⊕ ⊝ b)) (PolyFn-sub R (PolyFn-id R 0) (PolyFn-const R b 1)))

  module _ (l : ℕ) (node : ℕ → K) (different : Differ l node) where
    differ : (i j : ℕ) → i < l → j < l → i ≢ j → node i ≢ node j
    differ i j p q n = go (dec_lt i j)
      where
        go : Dec (i < j) → node i ≢ node j
        go (yes h) e = different i j h q e
        go (no h) e = different j i (omega arith) p (sym e)

    factor-self : (i j : ℕ) → i < l → j < l → factor F (eqb i j) (node i) (node j) (node i) ≡ 𝟙
    factor-self i j p q = go (eqb-split i j)
      where
        go : ((eqb i j ≡ true) × (i ≡ j)) ⊎ ((eqb i j ≡ false) × (i ≢ j)) → factor F (eqb i j) (node i) (node j) (node i) ≡ 𝟙
        go (inl e) = rw e.0
        go (inr e) = rw e.0 (mul-inv (node i ⊕ ⊝ node j) (λ z. differ i j p q e.1 (eq-of-sub R (node i) (node j) z)))

    factor-other : (i j : ℕ) → i ≢ j → factor F (eqb i j) (node i) (node j) (node j) ≡ 𝟘
    factor-other i j n = go (eqb-split i j)
      where
        go : ((eqb i j ≡ true) × (i ≡ j)) ⊎ ((eqb i j ≡ false) × (i ≢ j)) → factor F (eqb i j) (node i) (node j) (node j) ≡ 𝟘
        go (inl e) = absurd (n e.1)
        go (inr e) = rw e.0 (ring-eq R (node j ∷ inv (node i ⊕ ⊝ node j) ∷ []) ((x₀ :- x₀) :* x₁) (num 0) tt)

    -- L_i is 1 at its node, 0 at the other nodes, and of degree below l.
    pub basis-self : (i : ℕ) → i < l → basis F l node i (node i) ≡ 𝟙
    basis-self i p = prod_to-cong R l (λ j. factor F (eqb i j) (node i) (node j) (node i)) (λ j. 𝟙) (λ j q. factor-self i j p q) ∙ prod_to-one R l

    pub basis-other : (i j : ℕ) → j < l → i ≢ j → basis F l node i (node j) ≡ 𝟘
    basis-other i j q n = prod_to-zero R l (λ k. factor F (eqb i k) (node i) (node k) (node j)) j q (factor-other i j n)

    pub PolyFn-basis : (d i : ℕ) → i < l → l ≤ suc d → PolyFn R d (basis F l node i)
    PolyFn-basis d i p h = PolyFn-weaken R d (omega (arith, total-but-one i l p))
        (PolyFn-prod_to R (λ j. degree_if (eqb i j)) l (λ j. factor F (eqb i j) (node i) (node j)) (λ j q. PolyFn-factor (eqb i j) (node i) (node j)))

    -- The combination takes the values v at the nodes.
    pub combine-at : (v : ℕ → K) (j : ℕ) → j < l → combine F l node v (node j) ≡ v j
    combine-at v j q = sum_to-single R l (λ i. basis F l node i (node j) ⊗ v i) j q
        (λ i p n. ap (λ (y : K). y ⊗ v i) (basis-other i j q n) ∙ ring-eq R (v i ∷ []) (num 0 :* x₀) (num 0) tt)
        ∙ ap (λ (y : K). y ⊗ v j) (basis-self j q) ∙ ring-eq R (v j ∷ []) (num 1 :* x₀) x₀ tt

    pub PolyFn-combine : (d : ℕ) (v : ℕ → K) → l ≤ suc d → PolyFn R d (combine F l node v)
    PolyFn-combine d v h = PolyFn-sum_to R d l (λ i x. basis F l node i x ⊗ v i)
        (λ i p. PolyFn-cong R (λ x. ring-eq R (basis F l node i x ∷ v i ∷ []) (x₀ :* x₁) (x₁ :* x₀) tt) (PolyFn-scale R (v i) (PolyFn-basis d i p h)))

    -- The basis sums to 1: the combination of ones is 1 at l nodes, and of degree below l.
    pub basis-sum : 0 < l → (x : K) → sum_to R l (λ i. basis F l node i x) ≡ 𝟙
    basis-sum some x =
        sum_to-cong R l (λ i. basis F l node i x) (λ i. basis F l node i x ⊗ 𝟙) (λ i p. sym (mul-one (basis F l node i x)))
        ∙ equal-everywhere F (PolyFn-combine (l - 1) (λ i. 𝟙) (omega arith)) (PolyFn-const R 𝟙 (l - 1)) (build l node)
        (omega (arith, length-build l node)) (distinct-differ l node different) at-nodes x
      where
        at-nodes : All (λ b. combine F l node (λ i. 𝟙) b ≡ 𝟙) (build l node)
        at-nodes = All-build (λ b. combine F l node (λ i. 𝟙) b ≡ 𝟙) l node (λ j q. combine-at (λ i. 𝟙) j q)
