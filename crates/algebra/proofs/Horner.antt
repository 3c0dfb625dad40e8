-- Polynomials in numbered variables with integer coefficients, for `Solver`: sums and products that the kernel computes, and proofs that the
-- value in a commutative ring goes along.
-- Assumes nothing.
use mathlib.Core.Path.{◌≡◌, refl, sym, ◌∙◌, ap, ap₂}
use mathlib.Core.Bool.{Bool, true, false, ◌&&◌}
use mathlib.Core.List.{List, [], ◌∷◌}
use Prim.Native.Nat.{ℕ, zero, suc, ◌+◌, ◌*◌}
use lib.Dec.{T, eqb, eqb→eq}
use lib.ListN.{get_or}
use Rattle.algebra.specs.Ring.{CommRing, of_nat}
use Rattle.algebra.proofs.RingLaws.{zero-add, one-mul, add-mul, add_left_comm, mul_left_comm, mul-zero, zero-mul, neg-zero, neg-neg, neg_sum, neg-mul, mul-neg, of_nat-add, of_nat-mul}

-- A polynomial in the variables from some number on. `con a b` is the number a - b. `hor p q` is p + x q, with x the first variable;
-- p is a polynomial in the variables after x, and q one in x and those after it.
pub data Horner : Type 0 where
  con : ℕ → ℕ → Horner
  hor : Horner → Horner → Horner

abbrev pub zero_p : Horner
zero_p = con 0 0

-- The variable with the number i.
abbrev pub var_p : ℕ → Horner
var_p zero = hor zero_p (con 1 0)
var_p (suc i) = hor (var_p i) zero_p

-- (a - b) + p.
abbrev pub shift_p : ℕ → ℕ → Horner → Horner
shift_p a b (con c d) = con (a + c) (b + d)
shift_p a b (hor p q) = hor (shift_p a b p) q

-- p + r.
abbrev pub add_p : Horner → Horner → Horner
add_p (con a b) r = shift_p a b r
add_p (hor p q) (con c d) = hor (shift_p c d p) q
add_p (hor p q) (hor s t) = hor (add_p p s) (add_p q t)

-- (a - b) p, coefficient by coefficient.
abbrev pub scale_all : ℕ → ℕ → Horner → Horner
scale_all a b (con c d) = con (a * c + b * d) (a * d + b * c)
scale_all a b (hor p q) = hor (scale_all a b p) (scale_all a b q)

-- (a - b) p: zero at once where a is b.
abbrev pub scale_p : ℕ → ℕ → Horner → Horner
scale_p a b p = elim (eqb a b) [ true ↦ zero_p | false ↦ scale_all a b p ]

-- p, over one variable more in front, which it does not have.
abbrev pub lift_p : Horner → Horner
lift_p (con a b) = con a b
lift_p (hor p q) = hor (hor p q) zero_p

-- p r for `f` the product with p, where p lacks r's first variable.
abbrev pub mul_tail : (Horner → Horner) → Horner → Horner
mul_tail f (con c d) = lift_p (f (con c d))
mul_tail f (hor s t) = hor (f s) (mul_tail f t)

-- p r.
abbrev pub mul_p : Horner → Horner → Horner
mul_p (con a b) r = scale_p a b r
mul_p (hor p q) r = add_p (mul_tail (mul_p p) r) (hor zero_p (mul_p q r))

-- Every coefficient is zero.
abbrev pub is_zero : Horner → Bool
is_zero (con a b) = eqb a b
is_zero (hor p q) = is_zero p && is_zero q

module _ (R : CommRing) where
  open R use {carrier as K, zero as 𝟘, one as 𝟙, add as ◌⊕◌, mul as ◌⊗◌, neg as ⊝◌, add_assoc, add_comm, add-zero, add-neg, mul_assoc, mul-one, mul-add}

  infixl 60 ◌⊕◌
  infixl 70 ◌⊗◌
  infixl 80 ⊝◌
  first : List K → K
  first [] = 𝟘
  first (x ∷ ρ) = x

  rest : List K → List K
  rest [] = []
  rest (x ∷ ρ) = ρ

  -- The value of p where the list gives the variables' values.
  pub eval_p : List K → Horner → K
  eval_p ρ (con a b) = of_nat R a ⊕ ⊝ of_nat R b
  eval_p ρ (hor p q) = eval_p (rest ρ) p ⊕ first ρ ⊗ eval_p ρ q

  zero_p-sound : (ρ : List K) → eval_p ρ zero_p ≡ 𝟘
  unfolding eval_p
  zero_p-sound ρ = add-neg 𝟘

  pub var_p-sound : (ρ : List K) (i : ℕ) → eval_p ρ (var_p i) ≡ get_or ρ i 𝟘
  unfolding eval_p first rest
  var_p-sound [] zero = simp (neg-zero R, zero-add R, zero-mul R)
  var_p-sound (x ∷ ρ) zero = simp (neg-zero R, zero-add R, add-zero, mul-one)
  var_p-sound [] (suc i) = simp (var_p-sound [] i, zero-mul R, add-zero)
  var_p-sound (x ∷ ρ) (suc i) = simp (var_p-sound ρ i, add-neg, mul-zero R, add-zero)

  -- Laws of sums and products that the cases below come down to. They stand apart since a clause must hold by computation.
  add-diff : (a b c d : K) → (a ⊕ c) ⊕ ⊝ (b ⊕ d) ≡ (a ⊕ ⊝ b) ⊕ (c ⊕ ⊝ d)
  add-diff a b c d = simp (neg_sum R, add_assoc, add_left_comm R)

  mul-diff : (a b c d : K) → (a ⊗ c ⊕ b ⊗ d) ⊕ ⊝ (a ⊗ d ⊕ b ⊗ c) ≡ (a ⊕ ⊝ b) ⊗ (c ⊕ ⊝ d)
  mul-diff a b c d = simp (neg_sum R, mul-add, add-mul R, neg-mul R, mul-neg R, neg-neg R, add_assoc, add_comm, add_left_comm R)

  add_right_comm : (a b c : K) → (a ⊕ b) ⊕ c ≡ (b ⊕ c) ⊕ a
  add_right_comm a b c = simp (add_assoc, add_comm, add_left_comm R)

  add-hor : (x p q s t : K) → (p ⊕ s) ⊕ x ⊗ (q ⊕ t) ≡ (p ⊕ x ⊗ q) ⊕ (s ⊕ x ⊗ t)
  add-hor x p q s t = simp (mul-add, add_assoc, add_left_comm R)

  scale-hor : (x c p q : K) → c ⊗ p ⊕ x ⊗ (c ⊗ q) ≡ c ⊗ (p ⊕ x ⊗ q)
  scale-hor x c p q = simp (mul-add, mul_left_comm R)

  mul-hor : (x p q r : K) → p ⊗ r ⊕ (𝟘 ⊕ x ⊗ (q ⊗ r)) ≡ (p ⊕ x ⊗ q) ⊗ r
  mul-hor x p q r = simp (zero-add R, add-mul R, mul_assoc)

  con-add : (a b c d : ℕ) → of_nat R (a + c) ⊕ ⊝ of_nat R (b + d) ≡ (of_nat R a ⊕ ⊝ of_nat R b) ⊕ (of_nat R c ⊕ ⊝ of_nat R d)
  con-add a b c d = rw (of_nat-add R a c, of_nat-add R b d) (add-diff (of_nat R a) (of_nat R b) (of_nat R c) (of_nat R d))

  con-mul : (a b c d : ℕ) → of_nat R (a * c + b * d) ⊕ ⊝ of_nat R (a * d + b * c) ≡ (of_nat R a ⊕ ⊝ of_nat R b) ⊗ (of_nat R c ⊕ ⊝ of_nat R d)
  con-mul a b c d = simp (of_nat-add R, of_nat-mul R) (mul-diff (of_nat R a) (of_nat R b) (of_nat R c) (of_nat R d))

  shift_p-sound : (ρ : List K) (a b : ℕ) (p : Horner) → eval_p ρ (shift_p a b p) ≡ (of_nat R a ⊕ ⊝ of_nat R b) ⊕ eval_p ρ p
  unfolding eval_p
  shift_p-sound ρ a b (con c d) = con-add a b c d
  shift_p-sound ρ a b (hor p q) = rw (shift_p-sound (rest ρ) a b p) (add_assoc (of_nat R a ⊕ ⊝ of_nat R b) (eval_p (rest ρ) p) (first ρ ⊗ eval_p ρ q))

  pub add_p-sound : (ρ : List K) (p r : Horner) → eval_p ρ (add_p p r) ≡ eval_p ρ p ⊕ eval_p ρ r
  unfolding eval_p
  add_p-sound ρ (con a b) r = shift_p-sound ρ a b r
  add_p-sound ρ (hor p q) (con c d) = rw (shift_p-sound (rest ρ) c d p) (add_right_comm (of_nat R c ⊕ ⊝ of_nat R d) (eval_p (rest ρ) p) (first ρ ⊗ eval_p ρ q))
  add_p-sound ρ (hor p q) (hor s t) = rw (add_p-sound (rest ρ) p s, add_p-sound ρ q t) (add-hor (first ρ) (eval_p (rest ρ) p) (eval_p ρ q) (eval_p (rest ρ) s) (eval_p ρ t))

  scale_all-sound : (ρ : List K) (a b : ℕ) (p : Horner) → eval_p ρ (scale_all a b p) ≡ (of_nat R a ⊕ ⊝ of_nat R b) ⊗ eval_p ρ p
  unfolding eval_p
  scale_all-sound ρ a b (con c d) = con-mul a b c d
  scale_all-sound ρ a b (hor p q) = rw (scale_all-sound (rest ρ) a b p, scale_all-sound ρ a b q) (scale-hor (first ρ) (of_nat R a ⊕ ⊝ of_nat R b) (eval_p (rest ρ) p) (eval_p ρ q))

  con-zero : (a b : ℕ) → T (eqb a b) → of_nat R a ⊕ ⊝ of_nat R b ≡ 𝟘
  con-zero a b h = rw (eqb→eq a b h) (add-neg (of_nat R b))

  scale_p-sound : (ρ : List K) (a b : ℕ) (p : Horner) → eval_p ρ (scale_p a b p) ≡ (of_nat R a ⊕ ⊝ of_nat R b) ⊗ eval_p ρ p
  scale_p-sound ρ a b p = go (eqb a b) (con-zero a b)
    where
      go : (t : Bool) → (T t → of_nat R a ⊕ ⊝ of_nat R b ≡ 𝟘) → eval_p ρ (elim t [ true ↦ zero_p | false ↦ scale_all a b p ]) ≡ (of_nat R a ⊕ ⊝ of_nat R b) ⊗ eval_p ρ p
      go true h = rw (h tt) (zero_p-sound ρ ∙ sym (zero-mul R (eval_p ρ p)))
      go false h = scale_all-sound ρ a b p

  lift_p-sound : (ρ : List K) (p : Horner) → eval_p ρ (lift_p p) ≡ eval_p (rest ρ) p
  unfolding eval_p
  lift_p-sound ρ (con a b) = refl
  lift_p-sound ρ (hor p q) = simp (add-neg, mul-zero R, add-zero)

  mul_tail-sound : (ρ : List K) (p : Horner) (f : Horner → Horner) → ((r : Horner) → eval_p (rest ρ) (f r) ≡ eval_p (rest ρ) p ⊗ eval_p (rest ρ) r)
      → (r : Horner) → eval_p ρ (mul_tail f r) ≡ eval_p (rest ρ) p ⊗ eval_p ρ r
  unfolding eval_p
  mul_tail-sound ρ p f h (con c d) = lift_p-sound ρ (f (con c d)) ∙ h (con c d)
  mul_tail-sound ρ p f h (hor s t) = rw (h s, mul_tail-sound ρ p f h t) (scale-hor (first ρ) (eval_p (rest ρ) p) (eval_p (rest ρ) s) (eval_p ρ t))

  pub mul_p-sound : (ρ : List K) (p r : Horner) → eval_p ρ (mul_p p r) ≡ eval_p ρ p ⊗ eval_p ρ r
  unfolding eval_p
  mul_p-sound ρ (con a b) r = scale_p-sound ρ a b r
  mul_p-sound ρ (hor p q) r = add_p-sound ρ (mul_tail (mul_p p) r) (hor zero_p (mul_p q r))
      ∙ ap₂ (λ (x y : K). x ⊕ y) (mul_tail-sound ρ p (mul_p p) (mul_p-sound (rest ρ) p) r) (ap₂ (λ (x y : K). x ⊕ first ρ ⊗ y) (add-neg 𝟘) (mul_p-sound ρ q r))
      ∙ (mul-hor (first ρ) (eval_p (rest ρ) p) (eval_p ρ q) (eval_p ρ r))

  and_left : (s t : Bool) → T (s && t) → T s
  and_left true t h = tt
  and_left false t h = h

  and_right : (s t : Bool) → T (s && t) → T t
  and_right true t h = h
  and_right false t h = absurd h

  pub is_zero-sound : (ρ : List K) (p : Horner) → T (is_zero p) → eval_p ρ p ≡ 𝟘
  unfolding eval_p
  is_zero-sound ρ (con a b) h = con-zero a b h
  is_zero-sound ρ (hor p q) h =
      ap₂ (λ (x y : K). x ⊕ first ρ ⊗ y) (is_zero-sound (rest ρ) p (and_left (is_zero p) (is_zero q) h)) (is_zero-sound ρ q (and_right (is_zero p) (is_zero q) h))
      ∙ (zero-add R (first ρ ⊗ 𝟘) ∙ mul-zero R (first ρ))

  minus_one : (a : K) → (𝟘 ⊕ ⊝ 𝟙) ⊗ a ≡ ⊝ a
  minus_one a = simp (zero-add R, neg-mul R, one-mul R)

  pub neg_p-sound : (ρ : List K) (p : Horner) → eval_p ρ (scale_all 0 1 p) ≡ ⊝ eval_p ρ p
  neg_p-sound ρ p = scale_all-sound ρ 0 1 p ∙ minus_one (eval_p ρ p)

  pub num-sound : (ρ : List K) (n : ℕ) → eval_p ρ (con n 0) ≡ of_nat R n
  unfolding eval_p
  num-sound ρ n = ap (λ (x : K). of_nat R n ⊕ x) (neg-zero R) ∙ add-zero (of_nat R n)
