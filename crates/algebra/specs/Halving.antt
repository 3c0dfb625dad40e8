-- A polynomial's even and odd part, and the values of the whole from those of the parts.
-- Assumes nothing.
use Rattle.std.specs.Prelude.{List, [], ◌∷◌, ◌++◌, ℕ}
use Rattle.algebra.specs.Ring.{CommRing}
use Rattle.algebra.specs.Lists.{build}

-- The members at positions 0, 2, 4, ..
abbrev pub even_part : {A : Type 0} → List A → List A
even_part [] = []
even_part (a ∷ []) = a ∷ []
even_part (a ∷ b ∷ l) = a ∷ even_part l

-- The members at positions 1, 3, 5, ..
abbrev pub odd_part : {A : Type 0} → List A → List A
odd_part [] = []
odd_part (a ∷ []) = []
odd_part (a ∷ b ∷ l) = b ∷ odd_part l

module _ (R : CommRing) where
  open R use {carrier as K, add as ◌⊕◌, mul as ◌⊗◌, neg as ⊝◌}

  infixl 60 ◌⊕◌
  infixl 70 ◌⊗◌
  infixl 80 ⊝◌
  -- From the values e of the even part and o of the odd part: e + x × o at each of n points x, then e - x × o at each.
  abbrev pub joined : ℕ → (ℕ → K) → (ℕ → K) → (ℕ → K) → List K
  joined n x e o = build n (λ i. e i ⊕ x i ⊗ o i) ++ build n (λ i. e i ⊕ ⊝ (x i ⊗ o i))
