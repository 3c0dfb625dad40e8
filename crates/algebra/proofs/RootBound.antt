-- The root bound: a polynomial of degree at most d with more than d different roots is zero. Its proof divides by X - a for a root a.
-- Assumes nothing.
use mathlib.Core.Path.{◌≡◌, refl, sym, ◌∙◌, ap, ap₂}
use mathlib.Core.Logic.{◌≢◌}
use mathlib.Core.List.{List, [], ◌∷◌}
use Prim.Native.Nat.{ℕ, suc, ◌≤◌, ◌<◌}
use native.Mathlib.Omega.{arith}
use lib.ListN.{length}
use Rattle.algebra.specs.Ring.{CommRing, Field}
use Rattle.algebra.specs.Lists.{All, Distinct}
use Rattle.algebra.specs.Polynomial.{eval_poly, PolyFn}
use Rattle.algebra.proofs.RingLaws.{eq-of-sub}
use Rattle.algebra.proofs.Solver.{x₀, x₁, x₂, x₃, x₄, x₅, ◌:+◌, ◌:*◌, ◌:-◌, num, ring-eq, ring-from}
use Rattle.algebra.proofs.FieldLaws.{cancel-factor}
use Rattle.algebra.proofs.ListLaws.{All-map}
use Rattle.algebra.proofs.PolynomialLaws.{PolyFn-sub}

-- Division by X - a, in any commutative ring.
module _ (R : CommRing) where
  open R use {carrier as K, zero as 𝟘, add as ◌⊕◌, mul as ◌⊗◌, neg as ⊝◌}

  infixl 60 ◌⊕◌
  infixl 70 ◌⊗◌
  infixl 80 ⊝◌
  -- The quotient of c + X cs by X - a, for any c: the values at a of cs and of what is left of cs after each coefficient.
  abbrev pub quotient : K → List K → List K
  quotient a [] = []
  quotient a (c ∷ cs) = eval_poly R (c ∷ cs) a ∷ quotient a cs

  pub length-quotient : (a : K) (cs : List K) → length (quotient a cs) ≡ length cs
  length-quotient a [] = refl
  length-quotient a (c ∷ cs) = ap suc (length-quotient a cs)

  -- x cs(x) = a cs(a) + (x - a) q(x).
  pub division : (a : K) (cs : List K) (x : K) → x ⊗ eval_poly R cs x ≡ a ⊗ eval_poly R cs a ⊕ (x ⊕ ⊝ a) ⊗ eval_poly R (quotient a cs) x
  division a [] x = ring-eq R (x ∷ a ∷ []) (x₀ :* num 0) (x₁ :* num 0 :+ (x₀ :- x₁) :* num 0) tt
  division a (c ∷ cs) x = ap (λ (y : K). x ⊗ (c ⊕ y)) (division a cs x)
      ∙ ring-eq R (x ∷ a ∷ c ∷ eval_poly R cs a ∷ eval_poly R (quotient a cs) x ∷ [])
      (x₀ :* (x₂ :+ (x₁ :* x₃ :+ (x₀ :- x₁) :* x₄)))
      (x₁ :* (x₂ :+ x₁ :* x₃) :+ (x₀ :- x₁) :* (x₂ :+ x₁ :* x₃ :+ x₀ :* x₄)) tt

  -- A polynomial with the root a is X - a times the quotient.
  pub factor-root : (a c : K) (cs : List K) → eval_poly R (c ∷ cs) a ≡ 𝟘 → (x : K) → eval_poly R (c ∷ cs) x ≡ (x ⊕ ⊝ a) ⊗ eval_poly R (quotient a cs) x
  factor-root a c cs h x = ring-from R (a ∷ x ∷ c ∷ eval_poly R cs a ∷ eval_poly R cs x ∷ eval_poly R (quotient a cs) x ∷ []) (x₂ :+ x₁ :* x₄) ((x₁ :- x₀) :* x₅)
      ((num 1, x₁ :* x₄, x₀ :* x₃ :+ (x₁ :- x₀) :* x₅) ∷ (num 1, x₂ :+ x₀ :* x₃, num 0) ∷ []) (division a cs x, (h, tt)) tt

  -- A polynomial is zero where its coefficients are, and its coefficients are zero where those of the quotient and one value are.
  eval_poly-zeros : (cs : List K) (x : K) → All (λ c. c ≡ 𝟘) cs → eval_poly R cs x ≡ 𝟘
  eval_poly-zeros [] x h = refl
  eval_poly-zeros (c ∷ cs) x h = ap₂ (λ (y z : K). y ⊕ x ⊗ z) h.0 (eval_poly-zeros cs x h.1) ∙ ring-eq R (x ∷ []) (num 0 :+ x₀ :* num 0) (num 0) tt

  constant-zero : (a c y : K) → c ⊕ a ⊗ y ≡ 𝟘 → y ≡ 𝟘 → c ≡ 𝟘
  constant-zero a c y h e = ring-eq R (a ∷ c ∷ []) x₁ (x₁ :+ x₀ :* num 0) tt ∙ ap (λ (z : K). c ⊕ a ⊗ z) (sym e) ∙ h

  quotient-zeros : (a : K) (cs : List K) → All (λ c. c ≡ 𝟘) (quotient a cs) → All (λ c. c ≡ 𝟘) cs
  quotient-zeros a [] h = tt
  quotient-zeros a (c ∷ cs) h =
      let t : All (λ d. d ≡ 𝟘) cs = quotient-zeros a cs h.1 in
      (constant-zero a c (eval_poly R cs a) h.0 (eval_poly-zeros cs a t), t)

module _ (F : Field) where
  open F use {ring as R}
  open R use {carrier as K, zero as 𝟘, add as ◌⊕◌, neg as ⊝◌, add-neg}

  infixl 60 ◌⊕◌
  infixl 80 ⊝◌
  -- A root b of c + X cs other than the root a is a root of the quotient by X - a.
  quotient-root : (a c : K) (cs : List K) (b : K) → eval_poly R (c ∷ cs) a ≡ 𝟘 → b ≢ a → eval_poly R (c ∷ cs) b ≡ 𝟘 → eval_poly R (quotient R a cs) b ≡ 𝟘
  quotient-root a c cs b ha ne hb = cancel-factor F (b ⊕ ⊝ a) (eval_poly R (quotient R a cs) b) (λ e. ne (eq-of-sub R b a e))
      (sym (factor-root R a c cs ha b) ∙ hb)

  pub quotient-roots : (a c : K) (cs ps : List K) → eval_poly R (c ∷ cs) a ≡ 𝟘 → All (λ b. b ≢ a) ps → All (λ b. eval_poly R (c ∷ cs) b ≡ 𝟘) ps
      → All (λ b. eval_poly R (quotient R a cs) b ≡ 𝟘) ps
  quotient-roots a c cs [] ha ne h = tt
  quotient-roots a c cs (b ∷ ps) ha ne h = (quotient-root a c cs b ha ne.0 h.0, quotient-roots a c cs ps ha ne.1 h.1)

  -- The root bound: k coefficients whose polynomial vanishes at k different points are all zero.
  pub root-bound : (ps cs : List K) → length cs ≤ length ps → Distinct ps → All (λ b. eval_poly R cs b ≡ 𝟘) ps → All (λ c. c ≡ 𝟘) cs
  root-bound [] [] l d h = tt
  root-bound [] (c ∷ cs) l d h = absurd (omega arith)
  root-bound (a ∷ ps) [] l d h = tt
  root-bound (a ∷ ps) (c ∷ cs) l d h =
      let q : All (λ x. x ≡ 𝟘) (quotient R a cs) = root-bound ps (quotient R a cs) (omega (arith, length-quotient R a cs)) d.1 (quotient-roots a c cs ps h.0 d.0 h.1) in
      let t : All (λ x. x ≡ 𝟘) cs = quotient-zeros R a cs q in
      (constant-zero R a c (eval_poly R cs a) h.0 (eval_poly-zeros R cs a t), t)

  -- A polynomial function of degree at most d that vanishes at more than d different points is zero everywhere.
  pub zero-everywhere : {d : ℕ} {f : K → K} → PolyFn R d f → (ps : List K) → d < length ps → Distinct ps → All (λ b. f b ≡ 𝟘) ps → (x : K) → f x ≡ 𝟘
  zero-everywhere p ps l dist h x = p.value x
      ∙ eval_poly-zeros R p.coeffs x (root-bound ps p.coeffs (omega (arith, p.bound)) dist (All-map (λ b e. sym (p.value b) ∙ e) ps h))

  -- Two polynomial functions of degree at most d that agree at more than d different points agree everywhere.
  pub equal-everywhere : {d : ℕ} {f g : K → K} → PolyFn R d f → PolyFn R d g → (ps : List K) → d < length ps → Distinct ps → All (λ b. f b ≡ g b) ps → (x : K) → f x ≡ g x
  equal-everywhere {d} {f} {g} p q ps l dist h x =
      eq-of-sub R (f x) (g x) (zero-everywhere (PolyFn-sub R p q) ps l dist (All-map (λ b e. ap (λ (y : K). y ⊕ ⊝ g b) e ∙ add-neg (g b)) ps h) x)
