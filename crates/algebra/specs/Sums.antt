-- Sums and products in a commutative ring: over the numbers below n, and over the members of a list.
-- Assumes nothing.
use Rattle.std.specs.Prelude.{List, [], ◌∷◌, ℕ, zero, suc}
use Rattle.algebra.specs.Ring.{CommRing}

module _ (R : CommRing) where
  open R use {carrier as K, zero as 𝟘, one as 𝟙, add as ◌⊕◌, mul as ◌⊗◌}

  infixl 60 ◌⊕◌
  infixl 70 ◌⊗◌
  -- f 0 + .. + f (n - 1).
  abbrev pub sum_to : ℕ → (ℕ → K) → K
  sum_to zero f = 𝟘
  sum_to (suc n) f = sum_to n f ⊕ f n

  -- f 0 × .. × f (n - 1).
  abbrev pub prod_to : ℕ → (ℕ → K) → K
  prod_to zero f = 𝟙
  prod_to (suc n) f = prod_to n f ⊗ f n

  -- The sum of f a over the members a of a list.
  abbrev pub sum : {A : Type 0} → (A → K) → List A → K
  sum f [] = 𝟘
  sum f (a ∷ l) = f a ⊕ sum f l

  -- The product of f a over the members a of a list.
  abbrev pub prod : {A : Type 0} → (A → K) → List A → K
  prod f [] = 𝟙
  prod f (a ∷ l) = f a ⊗ prod f l
