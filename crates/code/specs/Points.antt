-- The points of the code over the field of p elements, and its sizes.
-- Paper 01, "Field, code and tree": k is a power of two from 2 to 64, the count of witness numbers. A codeword has 4k values.
-- Point i of the code is g^i, with g = 31^((p - 1) / 4k).
-- Assumes nothing.
use Rattle.std.specs.Prelude.{Bool, true, false, ◌||◌, List, ℕ, zero, suc, ◌*◌, ◌-◌, ◌/◌, eqb, leb}
use Rattle.algebra.specs.Lists.{build}
use Rattle.algebra.specs.Polynomial.{pow}
use Rattle.field.specs.BabyBear.{p, R, F, ofℕ}

-- k is a count of witness numbers.
abbrev pub is_witness_count : ℕ → Bool
is_witness_count k = eqb k 2 || eqb k 4 || eqb k 8 || eqb k 16 || eqb k 32 || eqb k 64

-- g, for k witness numbers.
unfoldable pub generator : ℕ → F
generator k = pow R (ofℕ 31) ((p - 1) / (4 * k))

-- Point i.
unfoldable pub point : ℕ → ℕ → F
point k i = pow R (generator k) i

-- The 4k points.
unfoldable pub points : ℕ → List F
points k = build (4 * k) (point k)

-- How often n can be halved, in at most `limit` steps, before it is 1.
abbrev pub halvings : ℕ → ℕ → ℕ
halvings zero n = 0
halvings (suc limit) n = elim (leb n 1) [ true ↦ 0 | false ↦ suc (halvings limit (n / 2)) ]

-- The levels of the tree over the 4k values: log2 (4k).
unfoldable pub depth : ℕ → ℕ
depth k = halvings (4 * k) (4 * k)
