-- What a fold rests on: a polynomial function f of the challenge, and the values e that it should take at the nodes.
-- f takes the values e at the nodes exactly if it is the combination of e plus the vanishing polynomial times a quotient.
-- Assumes nothing.
use mathlib.Core.Path.{◌≡◌}
use mathlib.Core.List.{List, [], ◌∷◌}
use Prim.Native.Nat.{ℕ, suc, ◌+◌, ◌≤◌, ◌<◌}
use native.Mathlib.Omega.{arith}
use lib.ListN.{length}
use Rattle.algebra.specs.Ring.{Field}
use Rattle.algebra.specs.Lists.{Differ, build}
use Rattle.algebra.specs.Polynomial.{eval_poly, PolyFn}
use Rattle.algebra.specs.Lagrange.{combine}
use Rattle.algebra.specs.Vanishing.{vanishing}
use Rattle.algebra.proofs.Solver.{x₀, x₁, x₂, x₃, x₄, ◌:+◌, ◌:*◌, ◌:-◌, :-◌, num, ring-from}
use Rattle.algebra.proofs.ListLaws.{length-build, All-build, distinct-differ}
use Rattle.algebra.proofs.PolynomialLaws.{PolyFn-sub}
use Rattle.algebra.proofs.LagrangeLaws.{combine-at, PolyFn-combine}
use Rattle.algebra.proofs.VanishingLaws.{vanishing-root, PolyFn-divide}

module _ (F : Field) (l : ℕ) (node : ℕ → F.ring.carrier) where
  open F use {ring as R}
  open R use {carrier as K, add as ◌⊕◌, mul as ◌⊗◌}

  infixl 60 ◌⊕◌
  infixl 70 ◌⊗◌
  -- At x, f is the combination of e plus the vanishing polynomial times q.
  abbrev pub FoldsAt : (K → K) → (ℕ → K) → List K → K → Type 0
  FoldsAt f e q x = f x ≡ combine F l node e x ⊕ vanishing R (build l node) x ⊗ eval_poly R q x

module _ (F : Field) (l : ℕ) (node : ℕ → F.ring.carrier) (different : Differ l node) where
  open F use {ring as R}
  open R use {carrier as K, zero as 𝟘, add as ◌⊕◌, mul as ◌⊗◌, neg as ⊝◌}

  infixl 60 ◌⊕◌
  infixl 70 ◌⊗◌
  infixl 80 ⊝◌
  -- If f takes the values e at the nodes, there is a quotient of n coefficients.
  pub fold-quotient : {d : ℕ} {f : K → K} → PolyFn R d f → (e : ℕ → K) (n : ℕ) → l ≤ suc d → suc d ≤ l + n → ((i : ℕ) → i < l → f (node i) ≡ e i)
      → (q : List K) × (length q ≡ n) × ((x : K) → FoldsAt F l node f e q x)
  fold-quotient {d} {f} p e n hl hn h = (w.0, w.1, λ x. ring-from R (f x ∷ c x ∷ (vanishing R (build l node) x ⊗ eval_poly R w.0 x) ∷ []) x₀ (x₁ :+ x₂) ((num 1, x₀ :- x₁, x₂) ∷ []) (w.2 x, tt) tt)
    where
      c : K → K
      c = combine F l node e

      w : (q : List K) × (length q ≡ n) × ((x : K) → f x ⊕ ⊝ c x ≡ vanishing R (build l node) x ⊗ eval_poly R q x)
      w = PolyFn-divide F (PolyFn-sub R p (PolyFn-combine F l node different d e hl)) (build l node) n (omega (arith, length-build l node)) (distinct-differ l node different)
          (All-build (λ b. f b ⊕ ⊝ c b ≡ 𝟘) l node
          (λ i k. ring-from R (f (node i) ∷ c (node i) ∷ e i ∷ []) (x₀ :- x₁) (num 0) ((num 1, x₀, x₂) ∷ (:- num 1, x₁, x₂) ∷ []) (h i k, (combine-at F l node different e i k, tt)) tt))

  -- If the equation holds at the nodes, f takes the values e there.
  pub fold-values : {f : K → K} (e : ℕ → K) (q : List K) → ((x : K) → FoldsAt F l node f e q x) → (i : ℕ) → i < l → f (node i) ≡ e i
  fold-values {f} e q h i k = ring-from R (f (node i) ∷ combine F l node e (node i) ∷ vanishing R (build l node) (node i) ∷ eval_poly R q (node i) ∷ e i ∷ [])
      x₀ x₄ ((num 1, x₀, x₁ :+ x₂ :* x₃) ∷ (x₃, x₂, num 0) ∷ (num 1, x₁, x₄) ∷ []) (h (node i), (vanishing-root R l node i k, (combine-at F l node different e i k, tt))) tt
