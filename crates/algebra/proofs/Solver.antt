-- A solver for identities that hold in every commutative ring.
-- Write both sides as `Expr`, over variables numbered from 0; the kernel computes the difference as a polynomial with integer coefficients
-- and sees that every coefficient is zero. Then the two sides have one value in every ring: `ring-eq`.
-- `ring-from` shows an equation from equations, each with a factor. An example of each stands at the end.
-- Assumes nothing.
use mathlib.Core.Path.{◌≡◌, refl, sym, ◌∙◌, ap, ap₂}
use mathlib.Core.Bool.{Bool}
use mathlib.Core.List.{List, [], ◌∷◌}
use Prim.Native.Nat.{ℕ}
use lib.Dec.{T}
use lib.ListN.{get_or}
use Rattle.algebra.specs.Ring.{CommRing, of_nat}
use Rattle.algebra.proofs.RingLaws.{mul-zero, eq-of-sub}
use Rattle.algebra.proofs.Horner.{Horner, con, var_p, add_p, scale_all, mul_p, is_zero, eval_p, var_p-sound, num-sound, add_p-sound, mul_p-sound, neg_p-sound, is_zero-sound}

-- A ring expression: variables, numbers, sums, differences, products and opposites.
infixl 60 ◌:+◌ ◌:-◌
infixl 70 ◌:*◌
infixl 80 :-◌
pub data Expr : Type 0 where
  var : ℕ → Expr
  num : ℕ → Expr
  ◌:+◌ : Expr → Expr → Expr
  ◌:-◌ : Expr → Expr → Expr
  ◌:*◌ : Expr → Expr → Expr
  :-◌ : Expr → Expr

abbrev pub x₀ : Expr
x₀ = var 0

abbrev pub x₁ : Expr
x₁ = var 1

abbrev pub x₂ : Expr
x₂ = var 2

abbrev pub x₃ : Expr
x₃ = var 3

abbrev pub x₄ : Expr
x₄ = var 4

abbrev pub x₅ : Expr
x₅ = var 5

abbrev pub x₆ : Expr
x₆ = var 6

abbrev pub x₇ : Expr
x₇ = var 7

-- The expression as a polynomial.
abbrev pub norm : Expr → Horner
norm (var i) = var_p i
norm (num n) = con n 0
norm (e :+ f) = add_p (norm e) (norm f)
norm (e :- f) = add_p (norm e) (scale_all 0 1 (norm f))
norm (e :* f) = mul_p (norm e) (norm f)
norm (:- e) = scale_all 0 1 (norm e)

-- The two sides are one polynomial.
abbrev pub identity : Expr → Expr → Bool
identity l r = is_zero (norm (l :- r))

-- The sum of k (u - v) over the triples (k, u, v).
abbrev pub combination : List (Expr × Expr × Expr) → Expr
combination [] = num 0
combination (h ∷ hs) = h.0 :* (h.1 :- h.2) :+ combination hs

module _ (R : CommRing) where
  open R use {carrier as K, zero as 𝟘, add as ◌⊕◌, mul as ◌⊗◌, neg as ⊝◌, add-zero, add-neg}

  infixl 60 ◌⊕◌
  infixl 70 ◌⊗◌
  infixl 80 ⊝◌
  -- The value of an expression where the list gives the variables' values.
  abbrev pub eval : List K → Expr → K
  eval ρ (var i) = get_or ρ i 𝟘
  eval ρ (num n) = of_nat R n
  eval ρ (e :+ f) = eval ρ e ⊕ eval ρ f
  eval ρ (e :- f) = eval ρ e ⊕ ⊝ eval ρ f
  eval ρ (e :* f) = eval ρ e ⊗ eval ρ f
  eval ρ (:- e) = ⊝ eval ρ e

  norm-sound : (ρ : List K) (e : Expr) → eval_p R ρ (norm e) ≡ eval ρ e
  norm-sound ρ (var i) = var_p-sound R ρ i
  norm-sound ρ (num n) = num-sound R ρ n
  norm-sound ρ (e :+ f) = add_p-sound R ρ (norm e) (norm f) ∙ ap₂ ◌⊕◌ (norm-sound ρ e) (norm-sound ρ f)
  norm-sound ρ (e :- f) = add_p-sound R ρ (norm e) (scale_all 0 1 (norm f)) ∙ ap₂ ◌⊕◌ (norm-sound ρ e) (neg_p-sound R ρ (norm f) ∙ ap ⊝◌ (norm-sound ρ f))
  norm-sound ρ (e :* f) = mul_p-sound R ρ (norm e) (norm f) ∙ ap₂ ◌⊗◌ (norm-sound ρ e) (norm-sound ρ f)
  norm-sound ρ (:- e) = neg_p-sound R ρ (norm e) ∙ ap ⊝◌ (norm-sound ρ e)

  -- Two expressions whose difference has only zero coefficients have one value, whatever the variables stand for.
  pub ring-eq : (ρ : List K) (l r : Expr) → T (identity l r) → eval ρ l ≡ eval ρ r
  ring-eq ρ l r h = eq-of-sub R (eval ρ l) (eval ρ r) (sym (norm-sound ρ (l :- r)) ∙ is_zero-sound R ρ (norm (l :- r)) h)

  -- From equations to an equation: l - r is the sum of k (u - v) over the facts u = v, each with its factor k.
  abbrev pub Facts : List K → List (Expr × Expr × Expr) → Type 0
  Facts ρ [] = Unit {0}
  Facts ρ (h ∷ hs) = (eval ρ h.1 ≡ eval ρ h.2) × Facts ρ hs

  combination-zero : (ρ : List K) (hs : List (Expr × Expr × Expr)) → Facts ρ hs → eval ρ (combination hs) ≡ 𝟘
  combination-zero ρ [] f = refl
  combination-zero ρ (h ∷ hs) f = ap₂ ◌⊕◌
      (ap (λ (y : K). eval ρ h.0 ⊗ (y ⊕ ⊝ eval ρ h.2)) f.0 ∙ ap (λ (y : K). eval ρ h.0 ⊗ y) (add-neg (eval ρ h.2)) ∙ mul-zero R (eval ρ h.0))
      (combination-zero ρ hs f.1) ∙ add-zero 𝟘

  pub ring-from : (ρ : List K) (l r : Expr) (hs : List (Expr × Expr × Expr)) → Facts ρ hs → T (identity (l :- r) (combination hs)) → eval ρ l ≡ eval ρ r
  ring-from ρ l r hs f h = eq-of-sub R (eval ρ l) (eval ρ r) (ring-eq ρ (l :- r) (combination hs) h ∙ combination-zero ρ hs f)

  -- ---- examples
  squares : (a b : K) → (a ⊕ ⊝ b) ⊗ (a ⊕ b) ≡ a ⊗ a ⊕ ⊝ (b ⊗ b)
  squares a b = ring-eq (a ∷ b ∷ []) ((x₀ :- x₁) :* (x₀ :+ x₁)) (x₀ :* x₀ :- x₁ :* x₁) tt

  -- By the factor a - b.
  squares-from : (a b c : K) → c ≡ a ⊕ b → (a ⊕ ⊝ b) ⊗ c ≡ a ⊗ a ⊕ ⊝ (b ⊗ b)
  squares-from a b c h = ring-from (a ∷ b ∷ c ∷ []) ((x₀ :- x₁) :* x₂) (x₀ :* x₀ :- x₁ :* x₁) ((x₀ :- x₁, x₂, x₀ :+ x₁) ∷ []) (h, tt) tt
