-- Laws of commutative rings that follow from the record's. Identities of sums and products are better left to `Solver`.
-- Assumes nothing.
use mathlib.Core.Path.{◌≡◌, refl, sym, ◌∙◌, ap}
use Prim.Native.Nat.{ℕ, zero, suc, ◌+◌, ◌*◌}
use native.Mathlib.Nat.{add-suc, add-zero as nat-add-zero, mul-suc, mul-zero as nat-mul-zero}
use Rattle.algebra.specs.Ring.{CommRing, of_nat}

module _ (R : CommRing) where
  open R use {carrier as K, zero as 𝟘, one as 𝟙, add as ◌⊕◌, mul as ◌⊗◌, neg as ⊝◌, add_assoc, add_comm, add-zero, add-neg, mul_assoc, mul_comm, mul-one, mul-add}

  infixl 60 ◌⊕◌
  infixl 70 ◌⊗◌
  infixl 80 ⊝◌
  pub zero-add : (a : K) → 𝟘 ⊕ a ≡ a
  zero-add a = add_comm 𝟘 a ∙ add-zero a

  pub one-mul : (a : K) → 𝟙 ⊗ a ≡ a
  one-mul a = mul_comm 𝟙 a ∙ mul-one a

  pub neg-add : (a : K) → ⊝ a ⊕ a ≡ 𝟘
  neg-add a = add_comm (⊝ a) a ∙ add-neg a

  pub add-mul : (a b c : K) → (a ⊕ b) ⊗ c ≡ a ⊗ c ⊕ b ⊗ c
  add-mul a b c = rw (mul_comm (a ⊕ b) c, mul-add, mul_comm c a, mul_comm c b)

  pub add_left_comm : (a b c : K) → a ⊕ (b ⊕ c) ≡ b ⊕ (a ⊕ c)
  add_left_comm a b c = sym (add_assoc a b c) ∙ ap (λ (x : K). x ⊕ c) (add_comm a b) ∙ add_assoc b a c

  pub mul_left_comm : (a b c : K) → a ⊗ (b ⊗ c) ≡ b ⊗ (a ⊗ c)
  mul_left_comm a b c = sym (mul_assoc a b c) ∙ ap (λ (x : K). x ⊗ c) (mul_comm a b) ∙ mul_assoc b a c

  pub add-cancel : (a b c : K) → a ⊕ b ≡ a ⊕ c → b ≡ c
  add-cancel a b c h = sym (back b) ∙ ap (λ (x : K). ⊝ a ⊕ x) h ∙ back c
    where
      back : (x : K) → ⊝ a ⊕ (a ⊕ x) ≡ x
      back x = sym (add_assoc (⊝ a) a x) ∙ ap (λ (y : K). y ⊕ x) (neg-add a) ∙ zero-add x

  pub mul-zero : (a : K) → a ⊗ 𝟘 ≡ 𝟘
  mul-zero a = add-cancel (a ⊗ 𝟘) (a ⊗ 𝟘) 𝟘 (sym (mul-add a 𝟘 𝟘) ∙ ap (λ (x : K). a ⊗ x) (add-zero 𝟘) ∙ sym (add-zero (a ⊗ 𝟘)))

  pub zero-mul : (a : K) → 𝟘 ⊗ a ≡ 𝟘
  zero-mul a = mul_comm 𝟘 a ∙ mul-zero a

  -- The opposite is the only element that adds up to zero.
  pub neg_unique : (a b : K) → a ⊕ b ≡ 𝟘 → b ≡ ⊝ a
  neg_unique a b h = add-cancel a b (⊝ a) (h ∙ sym (add-neg a))

  pub neg-zero : ⊝ 𝟘 ≡ 𝟘
  neg-zero = sym (neg_unique 𝟘 𝟘 (add-zero 𝟘))

  pub neg-neg : (a : K) → ⊝ (⊝ a) ≡ a
  neg-neg a = sym (neg_unique (⊝ a) a (neg-add a))

  pub neg_sum : (a b : K) → ⊝ (a ⊕ b) ≡ ⊝ a ⊕ ⊝ b
  neg_sum a b = sym (neg_unique (a ⊕ b) (⊝ a ⊕ ⊝ b) (simp (add_assoc, add_left_comm b (⊝ a) (⊝ b), add-neg, add-zero)))

  pub neg-mul : (a b : K) → ⊝ a ⊗ b ≡ ⊝ (a ⊗ b)
  neg-mul a b = neg_unique (a ⊗ b) (⊝ a ⊗ b) (sym (add-mul a (⊝ a) b) ∙ ap (λ (x : K). x ⊗ b) (add-neg a) ∙ zero-mul b)

  pub mul-neg : (a b : K) → a ⊗ ⊝ b ≡ ⊝ (a ⊗ b)
  mul-neg a b = mul_comm a (⊝ b) ∙ neg-mul b a ∙ ap ⊝◌ (mul_comm b a)

  -- Two elements are equal where their difference is zero.
  pub eq-of-sub : (a b : K) → a ⊕ ⊝ b ≡ 𝟘 → a ≡ b
  eq-of-sub a b h = sym (neg-neg a) ∙ ap ⊝◌ (sym (neg_unique a (⊝ b) h)) ∙ neg-neg b

  -- The element for a number: sums and products of numbers go over into the ring.
  pub of_nat-suc : (n : ℕ) → of_nat R (suc n) ≡ of_nat R n ⊕ 𝟙
  of_nat-suc zero = sym (zero-add 𝟙)
  of_nat-suc (suc n) = refl

  pub of_nat-add : (m n : ℕ) → of_nat R (m + n) ≡ of_nat R m ⊕ of_nat R n
  of_nat-add m zero = rw nat-add-zero (sym (add-zero (of_nat R m)))
  of_nat-add m (suc n) = rw (add-suc, of_nat-suc (m + n), of_nat-add m n, of_nat-suc n) (add_assoc (of_nat R m) (of_nat R n) 𝟙)

  pub of_nat-mul : (m n : ℕ) → of_nat R (m * n) ≡ of_nat R m ⊗ of_nat R n
  of_nat-mul m zero = rw nat-mul-zero (sym (mul-zero (of_nat R m)))
  of_nat-mul m (suc n) = rw (mul-suc, of_nat-add (m * n) m, of_nat-mul m n, of_nat-suc n, mul-add, mul-one)
