-- How numbers, circuits, items, witnesses and openings lie in byte buffers. A number takes four bytes, lowest first;
-- the members of a list lie one after the other. `part s at n` is the n bytes of s from byte `at` on.
use Rattle.std.specs.Prelude.{List, [], ◌∷◌, ◌++◌, ℕ, suc, ◌+◌, ◌*◌, ◌/◌, length, get_or}
use Rattle.algebra.specs.Lists.{build, concat_to}
use Rattle.numbers.specs.Numbers.{numbers}
use Rattle.tree.specs.Layout.{part, digests, flat}
use Rattle.theory.specs.R1cs.{Entry, Circuit}
use Rattle.theory.specs.Items.{Item}
use Rattle.theory.specs.Folds.{Opening}
use Rattle.theory.specs.Instance.{Instance}

-- Number j of a buffer.
abbrev pub number_at : List ℕ → ℕ → ℕ
number_at b j = get_or (numbers b) j 0

-- ---- a matrix of a circuit: twelve bytes an entry, which are row, column and value

abbrev pub entry_count : List ℕ → ℕ
entry_count b = length b / 12

abbrev pub row_at : List ℕ → ℕ → ℕ
row_at b i = number_at b (3 * i)

abbrev pub column_at : List ℕ → ℕ → ℕ
column_at b i = number_at b (3 * i + 1)

abbrev pub entry_value_at : List ℕ → ℕ → ℕ
entry_value_at b i = number_at b (3 * i + 2)

module _ (I : Instance) where
  open I use {field as F, format as E}
  open F.ring use {carrier as K}

  -- The first n elements of a buffer.
  abbrev pub elements : ℕ → List ℕ → List K
  elements n b = build n (E.at b)

  -- ---- a circuit

  abbrev pub entry_at : List ℕ → ℕ → Entry K
  entry_at b i = record { row = row_at b i; column = column_at b i; value = E.of_number (entry_value_at b i) }

  abbrev pub matrix : List ℕ → List (Entry K)
  matrix b = build (entry_count b) (entry_at b)

  abbrev pub circuit : List ℕ → List ℕ → List ℕ → Circuit K
  circuit a b c = record { A = matrix a; B = matrix b; C = matrix c }

  -- ---- an item: e, r, x and root

  -- The bytes before the root, and all of them.
  abbrev pub item_front : ℕ → ℕ → ℕ
  item_front m n = E.size 1 + E.size m + E.size n

  abbrev pub item_size : ℕ → ℕ → ℕ
  item_size m n = item_front m n + 32

  abbrev pub read_item : ℕ → ℕ → List ℕ → Item K
  read_item m n b = record { e = E.at b 0; r = build m (λ j. E.at b (1 + j)); x = build n (λ j. E.at b (1 + m + j)); root = part b (item_front m n) 32 }

  abbrev pub item_bytes : Item K → List ℕ
  item_bytes item = E.bytes_of (item.e ∷ item.r ++ item.x) ++ item.root

  -- Item i of a buffer of items, and the first l of them.
  abbrev pub item_part : ℕ → ℕ → List ℕ → ℕ → List ℕ
  item_part m n items i = part items (i * item_size m n) (item_size m n)

  abbrev pub read_items : ℕ → ℕ → ℕ → List ℕ → List (Item K)
  read_items m n l items = build l (λ i. read_item m n (item_part m n items i))

  -- ---- witness i of a buffer of witnesses of k elements

  abbrev pub witness_part : ℕ → List ℕ → ℕ → List ℕ
  witness_part k wits i = part wits (i * E.size k) (E.size k)

  abbrev pub read_witness : ℕ → List ℕ → ℕ → List K
  read_witness k wits i = elements k (witness_part k wits i)

  -- ---- openings: the value and `depth` digests, position by position and, within one, item by item

  abbrev pub opening_size : ℕ → ℕ
  opening_size depth = E.size 1 + 32 * depth

  abbrev pub opening_part : ℕ → List ℕ → ℕ → List ℕ
  opening_part depth openings j = part openings (j * opening_size depth) (opening_size depth)

  -- The bytes of the value of opening j.
  abbrev pub opened_part : ℕ → List ℕ → ℕ → List ℕ
  opened_part depth openings j = part openings (j * opening_size depth) (E.size 1)

  abbrev pub read_opening : ℕ → List ℕ → ℕ → Opening K
  read_opening depth openings j = record { value = E.at (opened_part depth openings j) 0; siblings = digests openings (j * opening_size depth + E.size 1) depth }

  abbrev pub read_openings : ℕ → ℕ → List ℕ → List (Opening K)
  read_openings depth count openings = build count (read_opening depth openings)

  abbrev pub opening_bytes : Opening K → List ℕ
  opening_bytes o = E.bytes_of (o.value ∷ []) ++ flat o.siblings

  -- Buffers of t openings, one for each item and the new one last, taken position by position and, within one, item by item.
  abbrev pub in_order : ℕ → ℕ → ℕ → (ℕ → List ℕ) → List ℕ
  in_order depth t l buffers = concat_to t (λ q. concat_to (suc l) (λ i. opening_part depth (buffers i) q))
