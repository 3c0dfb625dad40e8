-- Two different byte strings with one digest, among the strings that were hashed.
use Rattle.std.specs.Prelude.{◌≡◌, ℕ}
use mathlib.Core.List.{List, Memᴰ}

-- a string of the one list and a string of the other that differ and have one digest
pub record Collision (digest : List ℕ → List ℕ) (ps qs : List (List ℕ)) : Type 0 where
  pub first : List ℕ
  pub second : List ℕ
  pub in-first : Memᴰ first ps
  pub in-second : Memᴰ second qs
  pub differ : first ≡ second → ⊥
  pub same : digest first ≡ digest second

-- strings of the list with one digest are equal
abbrev pub NoCollision : (List ℕ → List ℕ) → List (List ℕ) → Type 0
NoCollision digest strings = (a b : List ℕ) → Memᴰ a strings → Memᴰ b strings → digest a ≡ digest b → a ≡ b

-- every string of the one list is in the other
abbrev pub Within : List (List ℕ) → List (List ℕ) → Type 0
Within ps qs = (a : List ℕ) → Memᴰ a ps → Memᴰ a qs
