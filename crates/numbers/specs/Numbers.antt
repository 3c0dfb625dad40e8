-- Numbers in byte buffers: a number takes four bytes, lowest first.
-- A buffer is the list of its bytes, and `get_or xs i 0` is entry i of xs, counted from 0.
use Rattle.std.specs.Prelude.{List, [], ◌∷◌, ◌++◌, Bool, true, not, ◌&&◌, ℕ, ◌+◌, ◌*◌, ◌/◌, ◌%◌, eqb, ltb}
use Rattle.numbers.specs.Equality.{among}

-- the number that the bytes a b c d make
abbrev pub number4 : ℕ → ℕ → ℕ → ℕ → ℕ
number4 a b c d = a + 256 * b + 65536 * c + 16777216 * d

-- the numbers that a buffer holds; up to three bytes left over count for nothing
unfoldable pub numbers : List ℕ → List ℕ
numbers [] = []
numbers (a ∷ []) = []
numbers (a ∷ b ∷ []) = []
numbers (a ∷ b ∷ c ∷ []) = []
numbers (a ∷ b ∷ c ∷ d ∷ rest) = number4 a b c d ∷ numbers rest

-- the four bytes of a number
abbrev pub bytes4 : ℕ → List ℕ
bytes4 x = x % 256 ∷ x / 256 % 256 ∷ x / 65536 % 256 ∷ x / 16777216 % 256 ∷ []

-- the bytes of a list of numbers
unfoldable pub bytes : List ℕ → List ℕ
bytes [] = []
bytes (x ∷ xs) = bytes4 x ++ bytes xs

-- whether every number of a list is below m
unfoldable pub all_below : ℕ → List ℕ → Bool
all_below m [] = true
all_below m (x ∷ xs) = ltb x m && all_below m xs

-- whether no number of a list repeats another
unfoldable pub all_different : List ℕ → Bool
all_different [] = true
all_different (x ∷ xs) = not (among eqb x xs) && all_different xs
