-- Interpolation: k values at k different points fix exactly one list of k coefficients.
-- Assumes nothing.
use mathlib.Core.Path.{◌≡◌, refl, sym, ◌∙◌, ap, ap₂}
use mathlib.Core.Logic.{◌≢◌}
use mathlib.Core.List.{List, [], ◌∷◌, map}
use Prim.Native.Nat.{suc, ◌≤◌}
use native.Mathlib.Omega.{arith}
use lib.ListN.{length}
use Rattle.algebra.specs.Ring.{Field}
use Rattle.algebra.specs.Lists.{All, Distinct}
use Rattle.algebra.specs.Polynomial.{eval_poly, add_poly, scale_poly}
use Rattle.algebra.specs.Interpolation.{step, slopes, interpolate, Interpolates}
use Rattle.algebra.proofs.RingLaws.{eq-of-sub}
use Rattle.algebra.proofs.Solver.{x₀, x₁, x₂, x₃, ◌:+◌, ◌:*◌, ◌:-◌, :-◌, num, ring-eq}
use Rattle.algebra.proofs.PolynomialLaws.{eval_poly-add, eval_poly-scale, length-scale_poly}
use Rattle.algebra.proofs.RootBound.{root-bound}

module _ (F : Field) where
  open F use {ring as R, inv, mul-inv}
  open R use {carrier as K, zero as 𝟘, one as 𝟙, add as ◌⊕◌, mul as ◌⊗◌, neg as ⊝◌}

  infixl 60 ◌⊕◌
  infixl 70 ◌⊗◌
  infixl 80 ⊝◌
  -- ---- the polynomial v + (X - a) q
  eval_poly-step : (a v : K) (q : List K) (x : K) → eval_poly R (step F a v q) x ≡ v ⊕ (x ⊕ ⊝ a) ⊗ eval_poly R q x
  eval_poly-step a v q x = eval_poly-add R (v ∷ q) (scale_poly R (⊝ a) q) x
      ∙ ap (λ (y : K). v ⊕ x ⊗ eval_poly R q x ⊕ y) (eval_poly-scale R (⊝ a) q x)
      ∙ ring-eq R (a ∷ v ∷ x ∷ eval_poly R q x ∷ []) (x₁ :+ x₂ :* x₃ :+ (:- x₀) :* x₃) (x₁ :+ (x₂ :- x₀) :* x₃) tt

  length-add_poly-shorter : (cs ds : List K) → length ds ≤ length cs → length (add_poly R cs ds) ≡ length cs
  length-add_poly-shorter [] [] l = refl
  length-add_poly-shorter [] (d ∷ ds) l = absurd (omega arith)
  length-add_poly-shorter (c ∷ cs) [] l = refl
  length-add_poly-shorter (c ∷ cs) (d ∷ ds) l = ap suc (length-add_poly-shorter cs ds (omega arith))

  length-step : (a v : K) (q : List K) → length (step F a v q) ≡ suc (length q)
  length-step a v q = length-add_poly-shorter (v ∷ q) (scale_poly R (⊝ a) q) (omega (arith, length-scale_poly R (⊝ a) q))

  -- ---- there is one
  length-slopes : (a v : K) (ps vs : List K) → length vs ≡ length ps → length (slopes F a v ps vs) ≡ length ps
  length-slopes a v [] vs l = refl
  length-slopes a v (b ∷ ps) [] l = absurd (omega arith)
  length-slopes a v (b ∷ ps) (w ∷ vs) l = ap suc (length-slopes a v ps vs (omega arith))

  pub length-interpolate : (ps vs : List K) → length vs ≡ length ps → length (interpolate F ps vs) ≡ length ps
  length-interpolate [] vs l = refl
  length-interpolate (a ∷ ps) [] l = absurd (omega arith)
  length-interpolate (a ∷ ps) (v ∷ vs) l = length-step a v (interpolate F ps (slopes F a v ps vs))
      ∙ ap suc (length-interpolate ps (slopes F a v ps vs) (length-slopes a v ps vs (omega arith)))

  step-first : (a v : K) (q : List K) → eval_poly R (step F a v q) a ≡ v
  step-first a v q = eval_poly-step a v q a ∙ ring-eq R (a ∷ v ∷ eval_poly R q a ∷ []) (x₁ :+ (x₀ :- x₀) :* x₂) x₁ tt

  step_other : (a v : K) (q : List K) (b w : K) → b ≢ a → eval_poly R q b ≡ (w ⊕ ⊝ v) ⊗ inv (b ⊕ ⊝ a) → eval_poly R (step F a v q) b ≡ w
  step_other a v q b w ne e = eval_poly-step a v q b
      ∙ ap (λ (y : K). v ⊕ (b ⊕ ⊝ a) ⊗ y) e
      ∙ ring-eq R (v ∷ w ∷ (b ⊕ ⊝ a) ∷ inv (b ⊕ ⊝ a) ∷ []) (x₀ :+ x₂ :* ((x₁ :- x₀) :* x₃)) (x₀ :+ (x₂ :* x₃) :* (x₁ :- x₀)) tt
      ∙ ap (λ (y : K). v ⊕ y ⊗ (w ⊕ ⊝ v)) (mul-inv (b ⊕ ⊝ a) (λ z. ne (eq-of-sub R b a z)))
      ∙ ring-eq R (v ∷ w ∷ []) (x₀ :+ num 1 :* (x₁ :- x₀)) x₁ tt

  step-others : (a v : K) (q ps vs : List K) → All (λ b. b ≢ a) ps → length vs ≡ length ps → map (eval_poly R q) ps ≡ slopes F a v ps vs → map (eval_poly R (step F a v q)) ps ≡ vs
  step-others a v q [] [] ne l e = refl
  step-others a v q [] (w ∷ vs) ne l e = absurd (omega arith)
  step-others a v q (b ∷ ps) [] ne l e = absurd (omega arith)
  step-others a v q (b ∷ ps) (w ∷ vs) ne l e = ap₂ (λ (y : K) (r : List K). y ∷ r)
      (step_other a v q b w ne.0 (cc))
      (step-others a v q ps vs ne.1 (omega arith) (cc))

  -- The interpolating polynomial has the given values.
  pub interpolate-values : (ps vs : List K) → Distinct ps → length vs ≡ length ps → map (eval_poly R (interpolate F ps vs)) ps ≡ vs
  interpolate-values [] [] d l = refl
  interpolate-values [] (w ∷ vs) d l = absurd (omega arith)
  interpolate-values (a ∷ ps) [] d l = absurd (omega arith)
  interpolate-values (a ∷ ps) (v ∷ vs) d l =
      let q : List K = interpolate F ps (slopes F a v ps vs) in
      ap₂ (λ (y : K) (r : List K). y ∷ r) (step-first a v q)
      (step-others a v q ps vs d.0 (omega arith) (interpolate-values ps (slopes F a v ps vs) d.1 (length-slopes a v ps vs (omega arith))))

  -- ---- there is one only
  -- Two lists whose difference is all zeros are equal.
  equal-coefficients : (cs ds : List K) → length cs ≡ length ds → All (λ c. c ≡ 𝟘) (add_poly R cs (scale_poly R (⊝ 𝟙) ds)) → cs ≡ ds
  equal-coefficients [] [] l h = refl
  equal-coefficients [] (d ∷ ds) l h = absurd (omega arith)
  equal-coefficients (c ∷ cs) [] l h = absurd (omega arith)
  equal-coefficients (c ∷ cs) (d ∷ ds) l h = ap₂ (λ (y : K) (r : List K). y ∷ r)
      (eq-of-sub R c d (ring-eq R (c ∷ d ∷ []) (x₀ :- x₁) (x₀ :+ (:- num 1) :* x₁) tt ∙ h.0))
      (equal-coefficients cs ds (omega arith) h.1)

  difference-roots : (cs ds ps : List K) → map (eval_poly R cs) ps ≡ map (eval_poly R ds) ps → All (λ b. eval_poly R (add_poly R cs (scale_poly R (⊝ 𝟙) ds)) b ≡ 𝟘) ps
  difference-roots cs ds [] e = tt
  difference-roots cs ds (b ∷ ps) e =
      let h : eval_poly R cs b ≡ eval_poly R ds b = cc in (
        eval_poly-add R cs (scale_poly R (⊝ 𝟙) ds) b
            ∙ ap₂ (λ (y z : K). y ⊕ z) h (eval_poly-scale R (⊝ 𝟙) ds b)
            ∙ ring-eq R (eval_poly R ds b ∷ []) (x₀ :+ (:- num 1) :* x₀) (num 0) tt,
        difference-roots cs ds ps (cc),
      )

  -- k coefficients are settled by the values at k different points.
  pub interpolation-unique : (ps cs ds : List K) → Distinct ps → length cs ≡ length ps → length ds ≡ length ps → map (eval_poly R cs) ps ≡ map (eval_poly R ds) ps → cs ≡ ds
  interpolation-unique ps cs ds d lc ld e = equal-coefficients cs ds (omega arith)
      (root-bound F ps (add_poly R cs (scale_poly R (⊝ 𝟙) ds))
      (omega (arith, length-add_poly-shorter cs (scale_poly R (⊝ 𝟙) ds) (omega (arith, length-scale_poly R (⊝ 𝟙) ds))))
      d (difference-roots cs ds ps e))

  -- For k different points and k values there is exactly one list of k coefficients with these values.
  pub interpolation : (ps vs : List K) → Distinct ps → length vs ≡ length ps
      → (cs : List K) × Interpolates F ps vs cs × ((ds : List K) → Interpolates F ps vs ds → ds ≡ cs)
  interpolation ps vs d l = (
    interpolate F ps vs,
    record { count = length-interpolate ps vs l; values = interpolate-values ps vs d l },
    λ ds h. interpolation-unique ps ds (interpolate F ps vs) d h.count (length-interpolate ps vs l) (h.values ∙ sym (interpolate-values ps vs d l)),
  )
