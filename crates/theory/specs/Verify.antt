-- Verifying a fold (paper 01, "Claims and folds" and "Checking order"): it sees neither circuit nor witness, and writes nothing.
-- Its checks stand in the paper's order, each over all its input before the next. Of the new item's x check 7 says all. With the verdict
-- it says how many blocks were hashed up to it.
use Rattle.std.specs.Prelude.{Bool, cond, ◌&&◌, List, [], ◌∷◌, ◌++◌, ℕ, suc, ◌*◌, eqb, length}
use Rattle.numbers.specs.Numbers.{numbers}
use Rattle.numbers.specs.Equality.{same_bytes}
use Rattle.tree.specs.Merkle.{blocks_of}
use Rattle.code.specs.Points.{depth}
use Rattle.theory.specs.Items.{Item}
use Rattle.theory.specs.Combination.{mix, new_r, new_x, new_e, quotient_size}
use Rattle.theory.specs.Folds.{Shown, position_count, value_at, leads_to, opening_strings_of, item_of}
use Rattle.theory.specs.Checks.{Check, check, answer, every, reached}
use Rattle.theory.specs.Results.{Verified}
use Rattle.theory.specs.Instance.{Instance, same_element, same_elements}
use Rattle.theory.specs.Buffers.{elements, item_size, read_item, read_items, opening_size, read_openings}
use Rattle.theory.specs.Sizes.{sizes, item_count_fits, position_count_fits, has_length, elements_below, item_below, items_below, opened_below, items_leading_one, positions_below}

module _ (I : Instance) where
  open I use {field as F, format as E, hash as H}
  open F.ring use {carrier as K}

  -- What the buffers show.
  abbrev pub read_shown : ℕ → ℕ → ℕ → ℕ → ℕ → E.Challenge → List ℕ → List ℕ → List ℕ → Shown K
  read_shown m n k l t challenge positions item openings =
      record { challenge = E.element challenge; positions = numbers positions; item = read_item I m n item; openings = read_openings I (depth k) (t * suc l) openings }

  -- Check 7: the new item's r, x and e are the ones defined for the challenge.
  abbrev pub combines : ℕ → ℕ → List (Item K) → List K → Shown K → Bool
  combines m n items q s =
      same_elements I s.item.r (new_r F m items s.challenge)
      && same_elements I s.item.x (new_x F n items s.challenge)
      && same_element I s.item.e (new_e F items q s.challenge)

  -- Check 8: each opening leads to its root.
  abbrev pub leads : List (Item K) → Shown K → ℕ → ℕ → Bool
  leads items s q i = same_bytes (leads_to F items H s q i) (item_of F items s i).root

  abbrev pub openings_lead : List (Item K) → Shown K → Bool
  openings_lead items s = every (position_count s) (λ q. every (suc (length items)) (leads items s q))

  -- The strings hashed for it: openings are hashed position by position and, within one, item by item, each of them whole, up to and
  -- with the first that doesn't lead to its root.
  abbrev pub reached_strings : List (Item K) → Shown K → List (List ℕ)
  reached_strings items s = reached (position_count s) (suc (length items)) (leads items s) (λ q i. opening_strings_of F items H s q i)

  -- Check 9: each new opened value is the combination of the items' opened values.
  abbrev pub values_combine : List (Item K) → Shown K → Bool
  values_combine items s =
      every (position_count s) (λ q. same_element I (value_at F items s q (length items)) (mix F (length items) (λ i. value_at F items s q i) s.challenge))

  abbrev pub verify_fits : ℕ → ℕ → ℕ → ℕ → ℕ → E.Challenge → List ℕ → List ℕ → List ℕ → List ℕ → List ℕ → Bool
  verify_fits m n k l t challenge items positions q item openings =
      E.sized challenge && sizes m n k && item_count_fits l && position_count_fits k t
      && has_length items (l * item_size I m n) && has_length positions (4 * t) && has_length q (E.size (quotient_size m l))
      && has_length item (item_size I m n) && has_length openings (t * suc l * opening_size I (depth k))

  -- The checks of each number by itself.
  abbrev pub input_checks : ℕ → ℕ → ℕ → ℕ → ℕ → E.Challenge → List ℕ → List ℕ → List ℕ → List ℕ → List ℕ → List Check
  input_checks m n k l t challenge items positions q item openings =
      check 2 (verify_fits m n k l t challenge items positions q item openings)
      ∷ check 3 (items_below I m n l items && elements_below q && item_below I m n item && opened_below I (depth k) (t * suc l) openings)
      ∷ check 13 (items_leading_one I m n l items)
      ∷ check 5 (E.permitted l challenge)
      ∷ check 6 (positions_below k positions)
      ∷ []

  -- The checks before 8, which hash nothing.
  abbrev pub unhashed_checks : ℕ → ℕ → ℕ → ℕ → ℕ → E.Challenge → List ℕ → List ℕ → List ℕ → List ℕ → List ℕ → List Check
  unhashed_checks m n k l t challenge items positions q item openings =
      input_checks m n k l t challenge items positions q item openings
      ++ (check 7 (combines m n (read_items I m n l items) (elements I (quotient_size m l) q) (read_shown m n k l t challenge positions item openings)) ∷ [])

  abbrev pub verify_checks : ℕ → ℕ → ℕ → ℕ → ℕ → E.Challenge → List ℕ → List ℕ → List ℕ → List ℕ → List ℕ → List Check
  verify_checks m n k l t challenge items positions q item openings =
      let batch = read_items I m n l items in
      let shown = read_shown m n k l t challenge positions item openings in
      unhashed_checks m n k l t challenge items positions q item openings ++ (check 8 (openings_lead batch shown) ∷ check 9 (values_combine batch shown) ∷ [])

  -- The strings hashed up to the verdict: none where a check before 8 fails.
  abbrev pub verify_strings : ℕ → ℕ → ℕ → ℕ → ℕ → E.Challenge → List ℕ → List ℕ → List ℕ → List ℕ → List ℕ → List (List ℕ)
  verify_strings m n k l t challenge items positions q item openings =
      cond (eqb (answer (unhashed_checks m n k l t challenge items positions q item openings)) 0)
      (reached_strings (read_items I m n l items) (read_shown m n k l t challenge positions item openings)) []

  unfoldable pub verify : ℕ → ℕ → ℕ → ℕ → ℕ → E.Challenge → List ℕ → List ℕ → List ℕ → List ℕ → List ℕ → Verified
  verify m n k l t challenge items positions q item openings =
      record {
        verdict = answer (verify_checks m n k l t challenge items positions q item openings);
        blocks = blocks_of H.blocks (verify_strings m n k l t challenge items positions q item openings);
      }
