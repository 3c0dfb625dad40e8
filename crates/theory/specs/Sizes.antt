-- The checks on sizes, numbers, points, circuits and inputs that several calls share (paper 01, "Checking order", 2 to 6, and 12 and 13, which were
-- added to it).
use Rattle.std.specs.Prelude.{Bool, ◌&&◌, ◌||◌, List, ℕ, suc, ◌+◌, ◌-◌, ◌*◌, ◌%◌, ◌^◌, length, get_or, eqb, leb, ltb}
use Rattle.numbers.specs.Numbers.{numbers, all_below, all_different}
use Rattle.field.specs.BabyBear.{p}
use Rattle.code.specs.Points.{is_witness_count}
use Rattle.theory.specs.Checks.{every}
use Rattle.theory.specs.Instance.{Instance, same_element}
use Rattle.theory.specs.Buffers.{entry_count, row_at, column_at, entry_value_at, read_item, item_part, opened_part}

-- ---- check 2: sizes, counts and lengths

-- m and n, and with them k.
abbrev pub claim_sizes : ℕ → ℕ → Bool
claim_sizes m n = leb m 6 && leb 1 n && leb n 64

abbrev pub sizes : ℕ → ℕ → ℕ → Bool
sizes m n k = claim_sizes m n && is_witness_count k

abbrev pub item_count_fits : ℕ → Bool
item_count_fits l = leb 1 l && leb l 8

abbrev pub position_count_fits : ℕ → ℕ → Bool
position_count_fits k t = leb 1 t && leb t (4 * k)

-- Whole entries, at most 1,024 of them.
abbrev pub matrix_fits : List ℕ → Bool
matrix_fits b = eqb (length b % 12) 0 && leb (length b) 12288

abbrev pub circuit_fits : List ℕ → List ℕ → List ℕ → Bool
circuit_fits a b c = matrix_fits a && matrix_fits b && matrix_fits c

abbrev pub has_length : List ℕ → ℕ → Bool
has_length b size = eqb (length b) size

-- Lent points: none, which asks for the built-in ones, or 4k numbers.
abbrev pub points_fit : ℕ → List ℕ → Bool
points_fit k points = has_length points 0 || has_length points (4 * (4 * k))

-- ---- check 3: the numbers of elements (coefficients of a quotient and opened values too) are below p

abbrev pub elements_below : List ℕ → Bool
elements_below b = all_below p (numbers b)

abbrev pub matrix_below : List ℕ → Bool
matrix_below b = every (entry_count b) (λ i. ltb (entry_value_at b i) p)

abbrev pub circuit_below : List ℕ → List ℕ → List ℕ → Bool
circuit_below a b c = matrix_below a && matrix_below b && matrix_below c

module _ (I : Instance) where
  open I use {format as E}

  -- The elements of an item: e, r and x.
  abbrev pub item_below : ℕ → ℕ → List ℕ → Bool
  item_below m n b = every (1 + m + n) (E.below b)

  abbrev pub items_below : ℕ → ℕ → ℕ → List ℕ → Bool
  items_below m n l items = every l (λ i. item_below m n (item_part I m n items i))

  abbrev pub opened_below : ℕ → ℕ → List ℕ → Bool
  opened_below depth count openings = every count (λ j. E.below (opened_part I depth openings j) 0)

-- ---- check 12, directly after 3: each lent point is below p, and none repeats another

abbrev pub points_differ : List ℕ → Bool
points_differ points = all_below p (numbers points) && all_different (numbers points)

-- ---- check 4: entries are inside rows and columns, and strictly ascending by row and then column

abbrev pub inside : ℕ → ℕ → ℕ → List ℕ → ℕ → Bool
inside m n k b i = ltb (row_at b i) (2 ^ m) && ltb (column_at b i) (n + k)

abbrev pub before : List ℕ → ℕ → ℕ → Bool
before b i j = ltb (row_at b i) (row_at b j) || (eqb (row_at b i) (row_at b j) && ltb (column_at b i) (column_at b j))

abbrev pub matrix_in_order : ℕ → ℕ → ℕ → List ℕ → Bool
matrix_in_order m n k b = every (entry_count b) (inside m n k b) && every (entry_count b - 1) (λ i. before b i (suc i))

abbrev pub circuit_in_order : ℕ → ℕ → ℕ → List ℕ → List ℕ → List ℕ → Bool
circuit_in_order m n k a b c = matrix_in_order m n k a && matrix_in_order m n k b && matrix_in_order m n k c

-- ---- check 13, directly after 4 (in verifying, which has no 4, directly after 3): the first public input is 1

module _ (I : Instance) where
  open I use {field as F}
  open F.ring use {carrier as K, zero as 𝟘, one as 𝟙}

  abbrev pub leading_one : List K → Bool
  leading_one x = same_element I (get_or x 0 𝟘) 𝟙

  -- Of each of the first l items of a buffer.
  abbrev pub items_leading_one : ℕ → ℕ → ℕ → List ℕ → Bool
  items_leading_one m n l items = every l (λ i. leading_one (read_item I m n (item_part I m n items i)).x)

-- ---- check 6: the positions

abbrev pub positions_below : ℕ → List ℕ → Bool
positions_below k positions = all_below (4 * k) (numbers positions)
