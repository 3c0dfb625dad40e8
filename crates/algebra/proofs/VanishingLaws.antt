-- The vanishing polynomial of different points: a polynomial that is zero at these points is a multiple of it, with one quotient only.
-- Assumes nothing.
use mathlib.Core.Path.{◌≡◌, refl, sym, ◌∙◌, ap}
use mathlib.Core.Logic.{◌≢◌}
use mathlib.Core.List.{List, [], ◌∷◌}
use Prim.Native.Nat.{ℕ, zero, suc, ◌+◌, ◌≤◌, ◌<◌}
use native.Mathlib.Nat.{le_refl}
use native.Mathlib.Omega.{arith}
use lib.ListN.{length}
use Rattle.algebra.specs.Ring.{CommRing, Field}
use Rattle.algebra.specs.Lists.{All, Distinct, build}
use Rattle.algebra.specs.Polynomial.{eval_poly, PolyFn}
use Rattle.algebra.specs.Vanishing.{vanishing}
use Rattle.algebra.proofs.RingLaws.{mul-zero, eq-of-sub}
use Rattle.algebra.proofs.Solver.{x₀, x₁, x₂, ◌:+◌, ◌:*◌, ◌:-◌, num, ring-eq}
use Rattle.algebra.proofs.FieldLaws.{cancel-factor}
use Rattle.algebra.proofs.ListLaws.{All-map}
use Rattle.algebra.proofs.PolynomialLaws.{PolyFn-const, PolyFn-id, PolyFn-sub, PolyFn-mul, PolyFn-weaken, PolyFn-cong}
use Rattle.algebra.proofs.RootBound.{quotient, length-quotient, factor-root, quotient-roots}

module _ (R : CommRing) where
  open R use {carrier as K, zero as 𝟘, one as 𝟙, add as ◌⊕◌, mul as ◌⊗◌, neg as ⊝◌}

  infixl 60 ◌⊕◌
  infixl 70 ◌⊗◌
  infixl 80 ⊝◌
  -- The vanishing polynomial is zero at each of the points.
  pub vanishing-root : (l : ℕ) (node : ℕ → K) (j : ℕ) → j < l → vanishing R (build l node) (node j) ≡ 𝟘
  vanishing-root zero node j h = absurd (omega arith)
  vanishing-root (suc l) node zero h = ring-eq R (node 0 ∷ vanishing R (build l (λ i. node (suc i))) (node 0) ∷ []) ((x₀ :- x₀) :* x₁) (num 0) tt
  vanishing-root (suc l) node (suc j) h = ap (λ (y : K). (node (suc j) ⊕ ⊝ node 0) ⊗ y) (vanishing-root l (λ i. node (suc i)) j (omega arith))
      ∙ mul-zero R (node (suc j) ⊕ ⊝ node 0)

  -- Its degree is the number of points.
  pub PolyFn-vanishing : (ps : List K) → PolyFn R (length ps) (vanishing R ps)
  PolyFn-vanishing [] = PolyFn-const R 𝟙 0
  PolyFn-vanishing (a ∷ ps) = PolyFn-weaken R (suc (length ps)) (omega arith) (PolyFn-mul R (PolyFn-sub R (PolyFn-id R 0) (PolyFn-const R a 1)) (PolyFn-vanishing ps))

  -- Its multiple by q has at most as many coefficients as there are points and coefficients of q, if q has any.
  pub PolyFn-multiple : (ps q : List K) (d : ℕ) → length ps + length q ≤ suc d → PolyFn R d (λ x. vanishing R ps x ⊗ eval_poly R q x)
  PolyFn-multiple ps [] d h = PolyFn-cong R (λ x. ring-eq R (vanishing R ps x ∷ []) (x₀ :* num 0) (num 0) tt) (PolyFn-const R 𝟘 d)
  PolyFn-multiple ps (c ∷ cs) d h = PolyFn-weaken R d (omega arith)
      (PolyFn-mul R (PolyFn-vanishing ps) (record { coeffs = c ∷ cs; bound = le_refl (suc (length cs)); value = λ x. refl }))

  -- The coefficients followed by zeros, n in all where there are at most n.
  abbrev pub pad : ℕ → List K → List K
  pad zero cs = cs
  pad (suc n) [] = 𝟘 ∷ pad n []
  pad (suc n) (c ∷ cs) = c ∷ pad n cs

  pub length-pad : (n : ℕ) (cs : List K) → length cs ≤ n → length (pad n cs) ≡ n
  length-pad zero [] h = refl
  length-pad zero (c ∷ cs) h = absurd (omega arith)
  length-pad (suc n) [] h = ap suc (length-pad n [] (omega arith))
  length-pad (suc n) (c ∷ cs) h = ap suc (length-pad n cs (omega arith))

  pub eval_poly-pad : (n : ℕ) (cs : List K) (x : K) → eval_poly R (pad n cs) x ≡ eval_poly R cs x
  eval_poly-pad zero cs x = refl
  eval_poly-pad (suc n) [] x = ap (λ (y : K). 𝟘 ⊕ x ⊗ y) (eval_poly-pad n [] x) ∙ ring-eq R (x ∷ []) (num 0 :+ x₀ :* num 0) (num 0) tt
  eval_poly-pad (suc n) (c ∷ cs) x = ap (λ (y : K). c ⊕ x ⊗ y) (eval_poly-pad n cs x)

  -- The quotient by X - a for each point a in turn.
  abbrev pub divide : List K → List K → List K
  divide [] cs = cs
  divide (a ∷ ps) [] = []
  divide (a ∷ ps) (c ∷ cs) = divide ps (quotient R a cs)

  pub length-divide : (ps cs : List K) (n : ℕ) → length cs ≡ length ps + n → length (divide ps cs) ≡ n
  length-divide [] cs n h = omega arith
  length-divide (a ∷ ps) [] n h = absurd (omega arith)
  length-divide (a ∷ ps) (c ∷ cs) n h = length-divide ps (quotient R a cs) n (omega (arith, length-quotient R a cs))

module _ (F : Field) where
  open F use {ring as R}
  open R use {carrier as K, zero as 𝟘, add as ◌⊕◌, mul as ◌⊗◌, neg as ⊝◌}

  infixl 60 ◌⊕◌
  infixl 70 ◌⊗◌
  infixl 80 ⊝◌
  -- A polynomial that vanishes at each of the points is the vanishing polynomial times the quotient.
  pub divide-exact : (ps cs : List K) → Distinct ps → All (λ b. eval_poly R cs b ≡ 𝟘) ps → (x : K) → eval_poly R cs x ≡ vanishing R ps x ⊗ eval_poly R (divide R ps cs) x
  divide-exact [] cs d h x = ring-eq R (eval_poly R cs x ∷ []) x₀ (num 1 :* x₀) tt
  divide-exact (a ∷ ps) [] d h x = ring-eq R (vanishing R (a ∷ ps) x ∷ []) (num 0) (x₀ :* num 0) tt
  divide-exact (a ∷ ps) (c ∷ cs) d h x = factor-root R a c cs h.0 x
      ∙ ap (λ (y : K). (x ⊕ ⊝ a) ⊗ y) (divide-exact ps (quotient R a cs) d.1 (quotient-roots F a c cs ps h.0 d.0 h.1) x)
      ∙ ring-eq R ((x ⊕ ⊝ a) ∷ vanishing R ps x ∷ eval_poly R (divide R ps (quotient R a cs)) x ∷ []) (x₀ :* (x₁ :* x₂)) (x₀ :* x₁ :* x₂) tt

  -- It is not zero at any other point.
  pub vanishing-nonzero : (ps : List K) (x : K) → All (λ a. x ≢ a) ps → vanishing R ps x ≢ 𝟘
  vanishing-nonzero [] x h e = F.one≢zero e
  vanishing-nonzero (a ∷ ps) x h e = vanishing-nonzero ps x h.1 (cancel-factor F (x ⊕ ⊝ a) (vanishing R ps x) (λ z. h.0 (eq-of-sub R x a z)) e)

  -- A polynomial function of degree below l + n that vanishes at l different points is the vanishing polynomial times one of n coefficients.
  pub PolyFn-divide : {d : ℕ} {f : K → K} → PolyFn R d f → (ps : List K) (n : ℕ) → suc d ≤ length ps + n → Distinct ps → All (λ b. f b ≡ 𝟘) ps
      → (qs : List K) × (length qs ≡ n) × ((x : K) → f x ≡ vanishing R ps x ⊗ eval_poly R qs x)
  PolyFn-divide {d} {f} p ps n l dist h = (
    divide R ps cs,
    length-divide R ps cs n (length-pad R (length ps + n) p.coeffs (omega (arith, p.bound))),
    λ x. value x ∙ divide-exact ps cs dist (All-map (λ b e. sym (value b) ∙ e) ps h) x,
  )
    where
      cs : List K
      cs = pad R (length ps + n) p.coeffs

      value : (x : K) → f x ≡ eval_poly R cs x
      value x = p.value x ∙ sym (eval_poly-pad R (length ps + n) p.coeffs x)
