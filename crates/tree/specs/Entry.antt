-- The entries of a tree: what is hashed, after 0x00, for the value at a position.
use Rattle.std.specs.Prelude.{List, [], ◌∷◌, ◌++◌, ℕ, suc}
use Rattle.numbers.specs.Numbers.{bytes4}

-- the entry at position i for a value's bytes: the position in four bytes, lowest first, then the value
unfoldable pub entry : ℕ → List ℕ → List ℕ
entry i value = bytes4 i ++ value

-- the entries for numbers, in four bytes each, at the positions from i on
unfoldable pub entries_from : ℕ → List ℕ → List (List ℕ)
entries_from i [] = []
entries_from i (v ∷ vs) = entry i (bytes4 v) ∷ entries_from (suc i) vs

-- the entries for a list of numbers
abbrev pub entries : List ℕ → List (List ℕ)
entries vs = entries_from 0 vs
