-- The calls but for verifying: what each answers, and what each output buffer then holds. They are those of paper 01, "Claims and folds" and
-- "Checking order", and interleaving, which puts openings in the order in which verifying reads them.
-- A call's checks are listed in the paper's order, each over all its input before the next. Check 2 of a call is its `..Fits`.
-- A call that works out codewords takes a buffer of points, the first of its buffers.
use Rattle.std.specs.Prelude.{Bool, ◌&&◌, List, [], ◌∷◌, ◌++◌, ℕ, suc, ◌*◌, get_or}
use Rattle.algebra.specs.Lists.{concat_to}
use Rattle.numbers.specs.Numbers.{numbers}
use Rattle.numbers.specs.Equality.{same_bytes}
use Rattle.tree.specs.Merkle.{path}
use Rattle.tree.specs.Layout.{part}
use Rattle.code.specs.Points.{is_witness_count, depth}
use Rattle.theory.specs.R1cs.{Circuit, value}
use Rattle.theory.specs.Items.{Item, leaves}
use Rattle.theory.specs.Combination.{item_at, new_r, new_x, new_w, new_e, quotient_size, quotient_of}
use Rattle.theory.specs.Folds.{Opening}
use Rattle.theory.specs.Checks.{Check, check, answer, written, every}
use Rattle.theory.specs.Results.{Encoded, Cast, Quotient, Folded, Opened, Interleaved}
use Rattle.theory.specs.Instance.{Instance, same_element, codeword_of, witness_root}
use Rattle.theory.specs.Buffers.{elements, circuit, item_size, item_bytes, read_items, read_witness, opening_size, opening_bytes, in_order}
use Rattle.theory.specs.Sizes.{sizes, item_count_fits, position_count_fits, circuit_fits, has_length, points_fit, elements_below, circuit_below, items_below, points_differ, circuit_in_order, leading_one, items_leading_one, positions_below}

module _ (I : Instance) where
  open I use {field as F, format as E, hash as H}
  open F use {ring as R}
  open R use {carrier as K, zero as 𝟘}

  -- ---- encode: writes a witness's codeword and its root

  abbrev pub encode_fits : ℕ → List ℕ → List ℕ → List ℕ → List ℕ → Bool
  encode_fits k points w code root = is_witness_count k && points_fit k points && has_length w (E.size k) && has_length code (E.size (4 * k)) && has_length root 32

  abbrev pub encode_checks : ℕ → List ℕ → List ℕ → List ℕ → List ℕ → List Check
  encode_checks k points w code root = check 2 (encode_fits k points w code root) ∷ check 3 (elements_below w) ∷ check 12 (points_differ points) ∷ []

  unfoldable pub encode : ℕ → List ℕ → List ℕ → List ℕ → List ℕ → Encoded
  encode k points w code root =
      let a = answer (encode_checks k points w code root) in
      let witness = elements I k w in
      record { answer = a; code = written a (E.bytes_of (codeword_of I k points witness)) code; root = written a (witness_root I k points witness) root }

  -- ---- checks 10 and 11: the root is that of the witness's codeword; the item holds

  abbrev pub matches : ℕ → List ℕ → Item K → List K → Bool
  matches k points item w = same_bytes item.root (witness_root I k points w)

  abbrev pub holds : Circuit K → Item K → List K → Bool
  holds M item w = same_element I (value R M item.r item.x w) item.e

  -- ---- cast: takes r as given, sets e to 0 and works out the root

  abbrev pub cast_item : ℕ → ℕ → ℕ → List ℕ → List ℕ → List ℕ → List ℕ → Item K
  cast_item m n k points r x w = record { e = 𝟘; r = elements I m r; x = elements I n x; root = witness_root I k points (elements I k w) }

  abbrev pub cast_fits : ℕ → ℕ → ℕ → List ℕ → List ℕ → List ℕ → List ℕ → List ℕ → List ℕ → List ℕ → List ℕ → Bool
  cast_fits m n k points a b c r x w item =
      sizes m n k && points_fit k points && circuit_fits a b c && has_length r (E.size m) && has_length x (E.size n) && has_length w (E.size k) && has_length item (item_size I m n)

  abbrev pub cast_checks : ℕ → ℕ → ℕ → List ℕ → List ℕ → List ℕ → List ℕ → List ℕ → List ℕ → List ℕ → List ℕ → List Check
  cast_checks m n k points a b c r x w item =
      check 2 (cast_fits m n k points a b c r x w item)
      ∷ check 3 (circuit_below a b c && elements_below r && elements_below x && elements_below w)
      ∷ check 12 (points_differ points)
      ∷ check 4 (circuit_in_order m n k a b c)
      ∷ check 13 (leading_one I (elements I n x))
      ∷ check 11 (holds (circuit I a b c) (cast_item m n k points r x w) (elements I k w))
      ∷ []

  unfoldable pub cast : ℕ → ℕ → ℕ → List ℕ → List ℕ → List ℕ → List ℕ → List ℕ → List ℕ → List ℕ → List ℕ → Cast
  cast m n k points a b c r x w item =
      let answered = answer (cast_checks m n k points a b c r x w item) in
      record { answer = answered; item = written answered (item_bytes I (cast_item m n k points r x w)) item }

  -- ---- what quotient, fold and decide test alike: a circuit, and l items with their witnesses

  abbrev pub list_fits : ℕ → ℕ → ℕ → ℕ → List ℕ → List ℕ → List ℕ → List ℕ → List ℕ → List ℕ → Bool
  list_fits m n k l points a b c items wits =
      sizes m n k && item_count_fits l && points_fit k points && circuit_fits a b c && has_length items (l * item_size I m n) && has_length wits (l * E.size k)

  abbrev pub list_below : ℕ → ℕ → ℕ → List ℕ → List ℕ → List ℕ → List ℕ → List ℕ → Bool
  list_below m n l a b c items wits = circuit_below a b c && items_below I m n l items && elements_below wits

  -- Between check 2 and a call's own.
  abbrev pub list_checks : ℕ → ℕ → ℕ → ℕ → List ℕ → List ℕ → List ℕ → List ℕ → List ℕ → List ℕ → List Check
  list_checks m n k l points a b c items wits =
      check 3 (list_below m n l a b c items wits)
      ∷ check 12 (points_differ points)
      ∷ check 4 (circuit_in_order m n k a b c)
      ∷ check 13 (items_leading_one I m n l items)
      ∷ []

  -- Every item matches its witness, and every item holds with it.
  abbrev pub all_match : ℕ → ℕ → ℕ → ℕ → List ℕ → List ℕ → List ℕ → Bool
  all_match m n k l points items wits = every l (λ i. matches k points (item_at F (read_items I m n l items) i) (read_witness I k wits i))

  abbrev pub all_hold : ℕ → ℕ → ℕ → ℕ → List ℕ → List ℕ → List ℕ → List ℕ → List ℕ → Bool
  all_hold m n k l a b c items wits = every l (λ i. holds (circuit I a b c) (item_at F (read_items I m n l items) i) (read_witness I k wits i))

  -- Behind a call's own.
  abbrev pub claim_checks : ℕ → ℕ → ℕ → ℕ → List ℕ → List ℕ → List ℕ → List ℕ → List ℕ → List ℕ → List Check
  claim_checks m n k l points a b c items wits = check 10 (all_match m n k l points items wits) ∷ check 11 (all_hold m n k l a b c items wits) ∷ []

  -- ---- quotient and fold

  -- The quotient of the items with their witnesses.
  abbrev pub list_quotient : ℕ → ℕ → ℕ → ℕ → List ℕ → List ℕ → List ℕ → List ℕ → List ℕ → List K
  list_quotient m n k l a b c items wits = quotient_of F (circuit I a b c) m n k (read_items I m n l items) (read_witness I k wits)

  abbrev pub quotient_fits : ℕ → ℕ → ℕ → ℕ → List ℕ → List ℕ → List ℕ → List ℕ → List ℕ → List ℕ → List ℕ → Bool
  quotient_fits m n k l points a b c items wits q = list_fits m n k l points a b c items wits && has_length q (E.size (quotient_size m l))

  abbrev pub quotient_checks : ℕ → ℕ → ℕ → ℕ → List ℕ → List ℕ → List ℕ → List ℕ → List ℕ → List ℕ → List ℕ → List Check
  quotient_checks m n k l points a b c items wits q =
      check 2 (quotient_fits m n k l points a b c items wits q) ∷ list_checks m n k l points a b c items wits ++ claim_checks m n k l points a b c items wits

  unfoldable pub quotient : ℕ → ℕ → ℕ → ℕ → List ℕ → List ℕ → List ℕ → List ℕ → List ℕ → List ℕ → List ℕ → Quotient
  quotient m n k l points a b c items wits out =
      let answered = answer (quotient_checks m n k l points a b c items wits out) in
      record { answer = answered; quotient = written answered (E.bytes_of (list_quotient m n k l a b c items wits)) out }

  -- The new witness and the new item at the challenge.
  abbrev pub new_witness : ℕ → ℕ → K → List ℕ → List K
  new_witness k l challenge wits = new_w F k l (read_witness I k wits) challenge

  abbrev pub new_item : ℕ → ℕ → ℕ → ℕ → K → List ℕ → List ℕ → List ℕ → List K → Item K
  new_item m n k l challenge points items wits q =
      let batch = read_items I m n l items in
      record { e = new_e F batch q challenge; r = new_r F m batch challenge; x = new_x F n batch challenge; root = witness_root I k points (new_witness k l challenge wits) }

  abbrev pub fold_outputs_fit : ℕ → ℕ → ℕ → ℕ → List ℕ → List ℕ → List ℕ → Bool
  fold_outputs_fit m n k l q item wit = has_length q (E.size (quotient_size m l)) && has_length item (item_size I m n) && has_length wit (E.size k)

  abbrev pub fold_fits : ℕ → ℕ → ℕ → ℕ → E.Challenge → List ℕ → List ℕ → List ℕ → List ℕ → List ℕ → List ℕ → List ℕ → List ℕ → List ℕ → Bool
  fold_fits m n k l challenge points a b c items wits q item wit = E.sized challenge && list_fits m n k l points a b c items wits && fold_outputs_fit m n k l q item wit

  abbrev pub fold_checks : ℕ → ℕ → ℕ → ℕ → E.Challenge → List ℕ → List ℕ → List ℕ → List ℕ → List ℕ → List ℕ → List ℕ → List ℕ → List ℕ → List Check
  fold_checks m n k l challenge points a b c items wits q item wit =
      check 2 (fold_fits m n k l challenge points a b c items wits q item wit)
      ∷ list_checks m n k l points a b c items wits
      ++ check 5 (E.permitted l challenge)
      ∷ claim_checks m n k l points a b c items wits

  unfoldable pub fold : ℕ → ℕ → ℕ → ℕ → E.Challenge → List ℕ → List ℕ → List ℕ → List ℕ → List ℕ → List ℕ → List ℕ → List ℕ → List ℕ → Folded
  fold m n k l challenge points a b c items wits q item wit =
      let answered = answer (fold_checks m n k l challenge points a b c items wits q item wit) in
      let coefficients = list_quotient m n k l a b c items wits in
      record {
        answer = answered;
        quotient = written answered (E.bytes_of coefficients) q;
        item = written answered (item_bytes I (new_item m n k l (E.element challenge) points items wits coefficients)) item;
        wit = written answered (E.bytes_of (new_witness k l (E.element challenge) wits)) wit;
      }

  -- ---- open: the openings of one witness at a list of positions

  -- The opening of position p: the codeword's value there, and the sibling digests from the leaf upwards.
  abbrev pub opening_of : ℕ → List ℕ → List K → ℕ → Opening K
  opening_of k points w p = record { value = get_or (codeword_of I k points w) p 𝟘; siblings = path H.digest (depth k) (leaves F H (codeword_of I k points w)) p }

  -- The openings of t positions, one after the other.
  abbrev pub openings_of : ℕ → ℕ → List ℕ → List K → List ℕ → List ℕ
  openings_of k t points w positions = concat_to t (λ q. opening_bytes I (opening_of k points w (get_or positions q 0)))

  abbrev pub open_fits : ℕ → ℕ → List ℕ → List ℕ → List ℕ → List ℕ → Bool
  open_fits k t points w positions openings =
      is_witness_count k && position_count_fits k t && points_fit k points && has_length w (E.size k) && has_length positions (4 * t) && has_length openings (t * opening_size I (depth k))

  abbrev pub open_checks : ℕ → ℕ → List ℕ → List ℕ → List ℕ → List ℕ → List Check
  open_checks k t points w positions openings =
      check 2 (open_fits k t points w positions openings) ∷ check 3 (elements_below w) ∷ check 12 (points_differ points) ∷ check 6 (positions_below k positions) ∷ []

  unfoldable pub «open» : ℕ → ℕ → List ℕ → List ℕ → List ℕ → List ℕ → Opened
  «open» k t points w positions openings =
      let answered = answer (open_checks k t points w positions openings) in
      record { answer = answered; openings = written answered (openings_of k t points (elements I k w) (numbers positions)) openings }

  -- ---- interleave: the openings of all witnesses, in the order in which verify reads them

  -- The openings of witness i, of a buffer that has t for each witness, one witness after the other and the new one last.
  abbrev pub witness_openings : ℕ → ℕ → List ℕ → ℕ → List ℕ
  witness_openings k t opened i = part opened (i * (t * opening_size I (depth k))) (t * opening_size I (depth k))

  abbrev pub interleave_fits : ℕ → ℕ → ℕ → List ℕ → List ℕ → Bool
  interleave_fits k l t opened openings =
      is_witness_count k && item_count_fits l && position_count_fits k t
      && has_length opened (t * suc l * opening_size I (depth k)) && has_length openings (t * suc l * opening_size I (depth k))

  abbrev pub interleave_checks : ℕ → ℕ → ℕ → List ℕ → List ℕ → List Check
  interleave_checks k l t opened openings = check 2 (interleave_fits k l t opened openings) ∷ []

  unfoldable pub interleave : ℕ → ℕ → ℕ → List ℕ → List ℕ → Interleaved
  interleave k l t opened openings =
      let answered = answer (interleave_checks k l t opened openings) in
      record { answer = answered; openings = written answered (in_order I (depth k) t l (witness_openings k t opened)) openings }

  -- ---- decide: a list of one item

  abbrev pub decide_fits : ℕ → ℕ → ℕ → List ℕ → List ℕ → List ℕ → List ℕ → List ℕ → List ℕ → Bool
  decide_fits m n k points a b c item wit = sizes m n k && points_fit k points && circuit_fits a b c && has_length item (item_size I m n) && has_length wit (E.size k)

  abbrev pub decide_checks : ℕ → ℕ → ℕ → List ℕ → List ℕ → List ℕ → List ℕ → List ℕ → List ℕ → List Check
  decide_checks m n k points a b c item wit = check 2 (decide_fits m n k points a b c item wit) ∷ list_checks m n k 1 points a b c item wit ++ claim_checks m n k 1 points a b c item wit

  unfoldable pub decide : ℕ → ℕ → ℕ → List ℕ → List ℕ → List ℕ → List ℕ → List ℕ → List ℕ → ℕ
  decide m n k points a b c item wit = answer (decide_checks m n k points a b c item wit)
