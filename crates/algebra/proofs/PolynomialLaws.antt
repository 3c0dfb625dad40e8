-- Laws of polynomials: value and length of sums, multiples and products, and what makes a polynomial function.
-- Assumes nothing.
use mathlib.Core.Path.{◌≡◌, refl, sym, ◌∙◌, ap, ap₂}
use mathlib.Core.List.{List, [], ◌∷◌}
use Prim.Native.Nat.{ℕ, zero, suc, ◌+◌, ◌≤◌, ◌<◌}
use native.Mathlib.Omega.{arith}
use lib.ListN.{length}
use Rattle.algebra.specs.Ring.{CommRing}
use Rattle.algebra.specs.Sums.{sum_to, prod_to, sum}
use Rattle.algebra.specs.Polynomial.{eval_poly, add_poly, scale_poly, mul_poly, PolyFn}
use Rattle.algebra.proofs.RingLaws.{zero-add, mul-zero}
use Rattle.algebra.proofs.Solver.{x₀, x₁, x₂, x₃, x₄, ◌:+◌, ◌:*◌, :-◌, num, ring-eq}

-- The sum of the degrees d 0 to d (n - 1).
abbrev pub total : ℕ → (ℕ → ℕ) → ℕ
total zero d = 0
total (suc n) d = total n d + d n

module _ (R : CommRing) where
  open R use {carrier as K, zero as 𝟘, one as 𝟙, add as ◌⊕◌, mul as ◌⊗◌, neg as ⊝◌, add-zero}

  infixl 60 ◌⊕◌
  infixl 70 ◌⊗◌
  infixl 80 ⊝◌
  -- ---- values
  pub eval_poly-add : (cs ds : List K) (x : K) → eval_poly R (add_poly R cs ds) x ≡ eval_poly R cs x ⊕ eval_poly R ds x
  eval_poly-add [] ds x = sym (zero-add R (eval_poly R ds x))
  eval_poly-add (c ∷ cs) [] x = sym (add-zero (c ⊕ x ⊗ eval_poly R cs x))
  eval_poly-add (c ∷ cs) (d ∷ ds) x = ap (λ (y : K). (c ⊕ d) ⊕ x ⊗ y) (eval_poly-add cs ds x)
      ∙ ring-eq R (c ∷ d ∷ x ∷ eval_poly R cs x ∷ eval_poly R ds x ∷ []) (x₀ :+ x₁ :+ x₂ :* (x₃ :+ x₄)) ((x₀ :+ x₂ :* x₃) :+ (x₁ :+ x₂ :* x₄)) tt

  pub eval_poly-scale : (a : K) (cs : List K) (x : K) → eval_poly R (scale_poly R a cs) x ≡ a ⊗ eval_poly R cs x
  eval_poly-scale a [] x = sym (mul-zero R a)
  eval_poly-scale a (c ∷ cs) x = ap (λ (y : K). a ⊗ c ⊕ x ⊗ y) (eval_poly-scale a cs x)
      ∙ ring-eq R (a ∷ c ∷ x ∷ eval_poly R cs x ∷ []) (x₀ :* x₁ :+ x₂ :* (x₀ :* x₃)) (x₀ :* (x₁ :+ x₂ :* x₃)) tt

  pub eval_poly-mul : (cs ds : List K) (x : K) → eval_poly R (mul_poly R cs ds) x ≡ eval_poly R cs x ⊗ eval_poly R ds x
  eval_poly-mul [] ds x = ring-eq R (eval_poly R ds x ∷ []) (num 0) (num 0 :* x₀) tt
  eval_poly-mul (c ∷ cs) ds x = eval_poly-add (scale_poly R c ds) (𝟘 ∷ mul_poly R cs ds) x
      ∙ ap₂ (λ (y z : K). y ⊕ (𝟘 ⊕ x ⊗ z)) (eval_poly-scale c ds x) (eval_poly-mul cs ds x)
      ∙ ring-eq R (c ∷ x ∷ eval_poly R cs x ∷ eval_poly R ds x ∷ []) (x₀ :* x₃ :+ (num 0 :+ x₁ :* (x₂ :* x₃))) ((x₀ :+ x₁ :* x₂) :* x₃) tt

  -- ---- numbers of coefficients
  pub length-add_poly : (cs ds : List K) (n : ℕ) → length cs ≤ n → length ds ≤ n → length (add_poly R cs ds) ≤ n
  length-add_poly [] ds n p q = q
  length-add_poly (c ∷ cs) [] n p q = p
  length-add_poly (c ∷ cs) (d ∷ ds) zero p q = absurd (omega arith)
  length-add_poly (c ∷ cs) (d ∷ ds) (suc n) p q = let ih : length (add_poly R cs ds) ≤ n = length-add_poly cs ds n (omega arith) (omega arith) in omega arith

  pub length-scale_poly : (a : K) (cs : List K) → length (scale_poly R a cs) ≡ length cs
  length-scale_poly a [] = refl
  length-scale_poly a (c ∷ cs) = ap suc (length-scale_poly a cs)

  pub length-mul_poly : (cs ds : List K) (m n : ℕ) → length cs ≤ suc m → length ds ≤ suc n → length (mul_poly R cs ds) ≤ suc (m + n)
  length-mul_poly [] ds m n p q = omega arith
  length-mul_poly (c ∷ []) ds m n p q = length-add_poly (scale_poly R c ds) (𝟘 ∷ []) (suc (m + n)) (omega (arith, length-scale_poly c ds)) (omega arith)
  length-mul_poly (c ∷ (d ∷ cs)) ds zero n p q = absurd (omega arith)
  length-mul_poly (c ∷ (d ∷ cs)) ds (suc m) n p q =
      length-add_poly (scale_poly R c ds) (𝟘 ∷ mul_poly R (d ∷ cs) ds) (suc (suc m + n)) (omega (arith, length-scale_poly c ds))
      (omega (arith, length-mul_poly (d ∷ cs) ds m n (omega arith) q))

  -- ---- polynomial functions and their degrees
  pub PolyFn-const : (c : K) (d : ℕ) → PolyFn R d (λ x. c)
  PolyFn-const c d = record { coeffs = c ∷ []; bound = omega arith; value = λ x. ring-eq R (c ∷ x ∷ []) x₀ (x₀ :+ x₁ :* num 0) tt }

  pub PolyFn-id : (d : ℕ) → PolyFn R (suc d) (λ x. x)
  PolyFn-id d = record { coeffs = 𝟘 ∷ 𝟙 ∷ []; bound = omega arith; value = λ x. ring-eq R (x ∷ []) x₀ (num 0 :+ x₀ :* (num 1 :+ x₀ :* num 0)) tt }

  pub PolyFn-weaken : {d : ℕ} {f : K → K} (e : ℕ) → d ≤ e → PolyFn R d f → PolyFn R e f
  PolyFn-weaken e h p = record { coeffs = p.coeffs; bound = omega (arith, p.bound); value = p.value }

  pub PolyFn-cong : {d : ℕ} {f g : K → K} → ((x : K) → g x ≡ f x) → PolyFn R d f → PolyFn R d g
  PolyFn-cong h p = record { coeffs = p.coeffs; bound = p.bound; value = λ x. h x ∙ p.value x }

  pub PolyFn-add : {d : ℕ} {f g : K → K} → PolyFn R d f → PolyFn R d g → PolyFn R d (λ x. f x ⊕ g x)
  PolyFn-add {d} p q = record {
    coeffs = add_poly R p.coeffs q.coeffs;
    bound = length-add_poly p.coeffs q.coeffs (suc d) p.bound q.bound;
    value = λ x. ap₂ ◌⊕◌ (p.value x) (q.value x) ∙ sym (eval_poly-add p.coeffs q.coeffs x);
  }

  pub PolyFn-mul : {d e : ℕ} {f g : K → K} → PolyFn R d f → PolyFn R e g → PolyFn R (d + e) (λ x. f x ⊗ g x)
  PolyFn-mul {d} {e} p q = record {
    coeffs = mul_poly R p.coeffs q.coeffs;
    bound = length-mul_poly p.coeffs q.coeffs d e p.bound q.bound;
    value = λ x. ap₂ ◌⊗◌ (p.value x) (q.value x) ∙ sym (eval_poly-mul p.coeffs q.coeffs x);
  }

  pub PolyFn-scale : {d : ℕ} {f : K → K} (a : K) → PolyFn R d f → PolyFn R d (λ x. a ⊗ f x)
  PolyFn-scale {d} a p = record {
    coeffs = scale_poly R a p.coeffs;
    bound = omega (arith, length-scale_poly a p.coeffs, p.bound);
    value = λ x. ap (λ (y : K). a ⊗ y) (p.value x) ∙ sym (eval_poly-scale a p.coeffs x);
  }

  pub PolyFn-neg : {d : ℕ} {f : K → K} → PolyFn R d f → PolyFn R d (λ x. ⊝ f x)
  PolyFn-neg {d} {f} p = PolyFn-cong (λ x. ring-eq R (f x ∷ []) (:- x₀) ((:- num 1) :* x₀) tt) (PolyFn-scale (⊝ 𝟙) p)

  pub PolyFn-sub : {d : ℕ} {f g : K → K} → PolyFn R d f → PolyFn R d g → PolyFn R d (λ x. f x ⊕ ⊝ g x)
  PolyFn-sub p q = PolyFn-add p (PolyFn-neg q)

  pub PolyFn-sum : {A : Type 0} (d : ℕ) (f : A → K → K) → ((a : A) → PolyFn R d (f a)) → (l : List A) → PolyFn R d (λ x. sum R (λ a. f a x) l)
  PolyFn-sum d f h [] = PolyFn-const 𝟘 d
  PolyFn-sum d f h (a ∷ l) = PolyFn-add (h a) (PolyFn-sum d f h l)

  pub PolyFn-sum_to : (d n : ℕ) (f : ℕ → K → K) → ((i : ℕ) → i < n → PolyFn R d (f i)) → PolyFn R d (λ x. sum_to R n (λ i. f i x))
  PolyFn-sum_to d zero f h = PolyFn-const 𝟘 d
  PolyFn-sum_to d (suc n) f h = PolyFn-add (PolyFn-sum_to d n f (λ i l. h i (omega arith))) (h n (omega arith))

  pub PolyFn-prod_to : (d : ℕ → ℕ) (n : ℕ) (f : ℕ → K → K) → ((i : ℕ) → i < n → PolyFn R (d i) (f i)) → PolyFn R (total n d) (λ x. prod_to R n (λ i. f i x))
  PolyFn-prod_to d zero f h = PolyFn-const 𝟙 0
  PolyFn-prod_to d (suc n) f h = PolyFn-mul (PolyFn-prod_to d n f (λ i l. h i (omega arith))) (h n (omega arith))
