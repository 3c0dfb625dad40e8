-- Commutative rings and fields, as records that a section takes as a parameter: `module _ (F : Field) where`.
-- Assumes nothing.
use Rattle.std.specs.Prelude.{◌≡◌, ◌≢◌, ℕ, zero, suc}

-- A commutative ring with one.
pub record CommRing : Type 1 where
  pub carrier : Type 0
  pub is_set : IsSet carrier
  pub zero : carrier
  pub one : carrier
  pub add : carrier → carrier → carrier
  pub mul : carrier → carrier → carrier
  pub neg : carrier → carrier
  pub add_assoc : (a b c : carrier) → add (add a b) c ≡ add a (add b c)
  pub add_comm : (a b : carrier) → add a b ≡ add b a
  pub add-zero : (a : carrier) → add a zero ≡ a
  pub add-neg : (a : carrier) → add a (neg a) ≡ zero
  pub mul_assoc : (a b c : carrier) → mul (mul a b) c ≡ mul a (mul b c)
  pub mul_comm : (a b : carrier) → mul a b ≡ mul b a
  pub mul-one : (a : carrier) → mul a one ≡ a
  pub mul-add : (a b c : carrier) → mul a (add b c) ≡ add (mul a b) (mul a c)

-- A field: equality is decided, one is not zero, and each element but zero has an inverse.
pub record Field : Type 1 where
  pub ring : CommRing
  pub eq? : Discrete ring.carrier
  pub one≢zero : ring.one ≢ ring.zero
  pub inv : ring.carrier → ring.carrier
  pub mul-inv : (a : ring.carrier) → a ≢ ring.zero → ring.mul a (inv a) ≡ ring.one

module _ (R : CommRing) where
  open R use {carrier as K, zero as 𝟘, one as 𝟙, add as ◌⊕◌}

  infixl 60 ◌⊕◌
  -- The ring's element for a number: 1 + .. + 1.
  abbrev pub of_nat : ℕ → K
  of_nat zero = 𝟘
  of_nat (suc zero) = 𝟙
  of_nat (suc (suc n)) = of_nat (suc n) ⊕ 𝟙
