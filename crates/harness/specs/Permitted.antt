-- The inputs that the harness does not refuse.
use Rattle.std.specs.Prelude.{Bool, ◌&&◌, List, ℕ, ◌/◌, ◌%◌, ◌^◌, eqb, ltb, leb, length}
use Rattle.numbers.specs.Numbers.{all_below}
use Rattle.field.specs.BabyBear.{p}
use Rattle.tree.specs.Layout.{opening_size}
use Rattle.code.specs.Points.{is_witness_count}

-- a tree's depth and its count of values
abbrev pub tree_permitted : ℕ → ℕ → Bool
tree_permitted depth count = leb depth 8 && eqb count (2 ^ depth)

-- an opening's depth and its size in bytes
abbrev pub opened_permitted : ℕ → ℕ → Bool
opened_permitted depth size = leb depth 8 && eqb size (opening_size depth)

-- a tree, a position in it, and the size of the position's opening
abbrev pub opening_permitted : ℕ → ℕ → ℕ → ℕ → Bool
opening_permitted depth count position size = tree_permitted depth count && ltb position count && opened_permitted depth size

-- k witness numbers, and a codeword of 4k values
abbrev pub codeword_sizes : ℕ → ℕ → Bool
codeword_sizes k out = is_witness_count k && eqb (out % 4) 0 && eqb (out / 4) k

-- and every number is an element
abbrev pub codeword_permitted : List ℕ → ℕ → Bool
codeword_permitted w out = codeword_sizes (length w) out && all_below p w

-- as many values as points, and every number of w is an element
abbrev pub codeword_at_permitted : List ℕ → ℕ → ℕ → Bool
codeword_at_permitted w points out = eqb points out && all_below p w
