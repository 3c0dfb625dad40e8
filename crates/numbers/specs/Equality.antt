-- Tests of equality.
use Rattle.std.specs.Prelude.{Bool, true, false, ◌||◌, ℕ}
use mathlib.Core.List.{List, [], ◌∷◌, List-discrete}
use Rattle.std.proofs.Math.Decide.{ℕ_discrete}

-- the answer of a decision
abbrev pub decided : {P : Type 0} → Dec P → Bool
decided (yes p) = true
decided (no h) = false

-- whether two byte strings are equal
abbrev pub same_bytes : List ℕ → List ℕ → Bool
same_bytes a b = decided (List-discrete ℕ_discrete a b)

-- by a test of equality: whether a is in the list
abbrev pub among : {A : Type 0} → (A → A → Bool) → A → List A → Bool
among same a [] = false
among same a (b ∷ l) = same a b || among same a l
