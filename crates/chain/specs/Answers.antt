-- The answers of several calls, one after the other.
use Rattle.std.specs.Prelude.{List, [], ◌∷◌, ℕ, zero, suc}

-- The first of two answers that is not 0, or 0.
abbrev pub first_of : ℕ → ℕ → ℕ
first_of zero next = next
first_of (suc n) next = suc n

-- The first answer of a list that is not 0, or 0.
abbrev pub first_refusal : List ℕ → ℕ
first_refusal [] = 0
first_refusal (r ∷ rs) = first_of r (first_refusal rs)
