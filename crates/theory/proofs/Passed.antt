-- What a call's answer 0 says, by name: a record for each call with several checks, with a field for each check or group of checks.
-- The order of the checks is used here alone.
use mathlib.Core.Path.{◌≡◌}
use mathlib.Core.Bool.{true, ◌&&◌}
use mathlib.Core.List.{List, [], ◌∷◌}
use Prim.Native.Nat.{ℕ, suc, ◌*◌}
use native.Mathlib.Omega.{arith}
use Rattle.algebra.specs.Lists.{All}
use Rattle.numbers.proofs.Tests.{each-true}
use Rattle.code.specs.Points.{depth}
use Rattle.theory.specs.Items.{Item}
use Rattle.theory.specs.Combination.{new_r, new_x, new_e, quotient_size}
use Rattle.theory.specs.Folds.{Shown}
use Rattle.theory.specs.Checks.{check, answer}
use Rattle.theory.specs.Instance.{Instance, same_element, same_elements}
use Rattle.theory.specs.Buffers.{elements, circuit, item_size, read_items, opening_size}
use Rattle.theory.specs.Sizes.{sizes, item_count_fits, position_count_fits, circuit_fits, has_length, points_fit, elements_below, circuit_below, item_below, items_below, opened_below, points_differ, circuit_in_order, leading_one, items_leading_one, positions_below}
use Rattle.theory.specs.Calls.{encode_fits, encode_checks, holds, cast_item, cast_fits, cast_checks, list_fits, list_below, list_checks, all_match, all_hold, claim_checks, quotient_fits, quotient_checks, fold_fits, fold_checks, open_fits, open_checks, decide_fits, decide_checks}
use Rattle.theory.specs.Verify.{read_shown, combines, openings_lead, values_combine, verify_fits, verify_checks}
use Rattle.theory.proofs.CheckLaws.{Passed, answer-passed, passed-split}
use Rattle.theory.proofs.Equality.{equal-element, equal-elements}

module _ (I : Instance) where
  open I use {field as F, format as E}
  open F.ring use {carrier as K}

  -- ---- encode

  pub record EncodePasses (k : ℕ) (points w code root : List ℕ) : Type 0 where
    pub fits : encode_fits I k points w code root ≡ true
    pub below : elements_below w ≡ true
    pub differ : points_differ points ≡ true

  pub encode-passes : (k : ℕ) (points w code root : List ℕ) → answer (encode_checks I k points w code root) ≡ 0 → EncodePasses k points w code root
  encode-passes k points w code root e = let t = answer-passed (encode_checks I k points w code root) (omega arith) e in record { fits = t.0; below = t.1.0; differ = t.1.1.0 }

  -- ---- open

  pub record OpenPasses (k t : ℕ) (points w positions openings : List ℕ) : Type 0 where
    pub fits : open_fits I k t points w positions openings ≡ true
    pub below : elements_below w ≡ true
    pub differ : points_differ points ≡ true
    pub inside : positions_below k positions ≡ true

  pub open-passes : (k t : ℕ) (points w positions openings : List ℕ) → answer (open_checks I k t points w positions openings) ≡ 0 → OpenPasses k t points w positions openings
  open-passes k t points w positions openings e =
      let s = answer-passed (open_checks I k t points w positions openings) (omega arith) e in record { fits = s.0; below = s.1.0; differ = s.1.1.0; inside = s.1.1.1.0 }

  -- ---- cast

  pub record CastPasses (m n k : ℕ) (points a b c r x w item : List ℕ) : Type 0 where
    pub fits : cast_fits I m n k points a b c r x w item ≡ true
    pub below : (circuit_below a b c && elements_below r && elements_below x && elements_below w) ≡ true
    pub differ : points_differ points ≡ true
    pub in-order : circuit_in_order m n k a b c ≡ true
    pub leading-one : leading_one I (elements I n x) ≡ true
    pub holds : holds I (circuit I a b c) (cast_item I m n k points r x w) (elements I k w) ≡ true

  pub cast-passes : (m n k : ℕ) (points a b c r x w item : List ℕ) → answer (cast_checks I m n k points a b c r x w item) ≡ 0 → CastPasses m n k points a b c r x w item
  cast-passes m n k points a b c r x w item e =
      let t = answer-passed (cast_checks I m n k points a b c r x w item) (omega arith) e in
      record { fits = t.0; below = t.1.0; differ = t.1.1.0; in-order = t.1.1.1.0; leading-one = t.1.1.1.1.0; holds = t.1.1.1.1.1.0 }

  -- ---- a list: what quotient, fold and decide test alike

  module _ (m n k l : ℕ) (points a b c items wits : List ℕ) where
    pub record ListFits : Type 0 where
      pub sizes-fit : sizes m n k ≡ true
      pub count-fits : item_count_fits l ≡ true
      pub points-fit : points_fit k points ≡ true
      pub circuit-fits : circuit_fits a b c ≡ true
      pub items-fit : has_length items (l * item_size I m n) ≡ true
      pub wits-fit : has_length wits (l * E.size k) ≡ true

    pub list-fits : list_fits I m n k l points a b c items wits ≡ true → ListFits
    list-fits h =
        let t = each-true (sizes m n k) (item_count_fits l ∷ points_fit k points ∷ circuit_fits a b c ∷ has_length items (l * item_size I m n) ∷ has_length wits (l * E.size k) ∷ []) h in
        record { sizes-fit = t.0; count-fits = t.1.0; points-fit = t.1.1.0; circuit-fits = t.1.1.1.0; items-fit = t.1.1.1.1.0; wits-fit = t.1.1.1.1.1.0 }

    pub record ListPasses : Type 0 where
      pub below : list_below I m n l a b c items wits ≡ true
      pub differ : points_differ points ≡ true
      pub in-order : circuit_in_order m n k a b c ≡ true
      pub leading-one : items_leading_one I m n l items ≡ true

    -- Check 3, part by part.
    pub record ListBelow : Type 0 where
      pub circuit-below : circuit_below a b c ≡ true
      pub items-below : items_below I m n l items ≡ true
      pub wits-below : elements_below wits ≡ true

    pub list-below : list_below I m n l a b c items wits ≡ true → ListBelow
    list-below h =
        let t = each-true (circuit_below a b c) (items_below I m n l items ∷ elements_below wits ∷ []) h in
        record { circuit-below = t.0; items-below = t.1.0; wits-below = t.1.1.0 }

    of-list : All Passed (list_checks I m n k l points a b c items wits) → ListPasses
    of-list t = record { below = t.0; differ = t.1.0; in-order = t.1.1.0; leading-one = t.1.1.1.0 }

    pub list-passes : answer (list_checks I m n k l points a b c items wits) ≡ 0 → ListPasses
    list-passes e = of-list (answer-passed (list_checks I m n k l points a b c items wits) (omega arith) e)

    pub passed-list : ListPasses → All Passed (list_checks I m n k l points a b c items wits)
    passed-list h = (h.below, (h.differ, (h.in-order, (h.leading-one, tt))))

    pub record ClaimsPass : Type 0 where
      pub all-match : all_match I m n k l points items wits ≡ true
      pub all-hold : all_hold I m n k l a b c items wits ≡ true

    of-claims : All Passed (claim_checks I m n k l points a b c items wits) → ClaimsPass
    of-claims t = record { all-match = t.0; all-hold = t.1.0 }

    pub passed-claims : ClaimsPass → All Passed (claim_checks I m n k l points a b c items wits)
    passed-claims h = (h.all-match, (h.all-hold, tt))

    -- ---- quotient

    pub record QuotientPasses (q : List ℕ) : Type 0 where
      pub fits : quotient_fits I m n k l points a b c items wits q ≡ true
      pub list : ListPasses
      pub claims : ClaimsPass

    pub quotient-passes : (q : List ℕ) → answer (quotient_checks I m n k l points a b c items wits q) ≡ 0 → QuotientPasses q
    quotient-passes q e =
        let t = answer-passed (quotient_checks I m n k l points a b c items wits q) (omega arith) e in
        let s = passed-split (list_checks I m n k l points a b c items wits) (claim_checks I m n k l points a b c items wits) t.1 in
        record { fits = t.0; list = of-list s.0; claims = of-claims s.1 }

    -- ---- fold

    pub record FoldPasses (challenge : E.Challenge) (q item wit : List ℕ) : Type 0 where
      pub fits : fold_fits I m n k l challenge points a b c items wits q item wit ≡ true
      pub list : ListPasses
      pub permitted : E.permitted l challenge ≡ true
      pub claims : ClaimsPass

    pub fold-passes : (challenge : E.Challenge) (q item wit : List ℕ) → answer (fold_checks I m n k l challenge points a b c items wits q item wit) ≡ 0 → FoldPasses challenge q item wit
    fold-passes challenge q item wit e =
        let t = answer-passed (fold_checks I m n k l challenge points a b c items wits q item wit) (omega arith) e in
        let s = passed-split (list_checks I m n k l points a b c items wits) (check 5 (E.permitted l challenge) ∷ claim_checks I m n k l points a b c items wits) t.1 in
        record { fits = t.0; list = of-list s.0; permitted = s.1.0; claims = of-claims s.1.1 }

  -- ---- decide

  module _ (m n k : ℕ) (points a b c item wit : List ℕ) where
    pub record DecideFits : Type 0 where
      pub sizes-fit : sizes m n k ≡ true
      pub points-fit : points_fit k points ≡ true
      pub circuit-fits : circuit_fits a b c ≡ true
      pub item-fits : has_length item (item_size I m n) ≡ true
      pub wit-fits : has_length wit (E.size k) ≡ true

    pub decide-fits : decide_fits I m n k points a b c item wit ≡ true → DecideFits
    decide-fits h =
        let t = each-true (sizes m n k) (points_fit k points ∷ circuit_fits a b c ∷ has_length item (item_size I m n) ∷ has_length wit (E.size k) ∷ []) h in
        record { sizes-fit = t.0; points-fit = t.1.0; circuit-fits = t.1.1.0; item-fits = t.1.1.1.0; wit-fits = t.1.1.1.1.0 }

    pub record DecidePasses : Type 0 where
      pub fits : DecideFits
      pub list : ListPasses m n k 1 points a b c item wit
      pub claims : ClaimsPass m n k 1 points a b c item wit

    pub decide-passes : answer (decide_checks I m n k points a b c item wit) ≡ 0 → DecidePasses
    decide-passes e =
        let t = answer-passed (decide_checks I m n k points a b c item wit) (omega arith) e in
        let s = passed-split (list_checks I m n k 1 points a b c item wit) (claim_checks I m n k 1 points a b c item wit) t.1 in
        record { fits = decide-fits t.0; list = of-list m n k 1 points a b c item wit s.0; claims = of-claims m n k 1 points a b c item wit s.1 }

  -- ---- verify

  -- Check 7, part by part.
  module _ (m n : ℕ) (items : List (Item K)) (q : List K) (s : Shown K) where
    pub record Combines : Type 0 where
      pub new-r : s.item.r ≡ new_r F m items s.challenge
      pub new-x : s.item.x ≡ new_x F n items s.challenge
      pub new-e : s.item.e ≡ new_e F items q s.challenge

    item-combines : combines I m n items q s ≡ true → Combines
    item-combines h =
        let t = each-true (same_elements I s.item.r (new_r F m items s.challenge))
        (same_elements I s.item.x (new_x F n items s.challenge) ∷ same_element I s.item.e (new_e F items q s.challenge) ∷ []) h in
        record { new-r = equal-elements I _ _ t.0; new-x = equal-elements I _ _ t.1.0; new-e = equal-element I _ _ t.1.1.0 }

  module _ (m n k l t : ℕ) (challenge : E.Challenge) (items positions q item openings : List ℕ) where
    pub record VerifyFits : Type 0 where
      pub challenge-sized : E.sized challenge ≡ true
      pub sizes-fit : sizes m n k ≡ true
      pub count-fits : item_count_fits l ≡ true
      pub positions-count : position_count_fits k t ≡ true
      pub items-fit : has_length items (l * item_size I m n) ≡ true
      pub positions-fit : has_length positions (4 * t) ≡ true
      pub quotient-fits : has_length q (E.size (quotient_size m l)) ≡ true
      pub item-fits : has_length item (item_size I m n) ≡ true
      pub openings-fit : has_length openings (t * suc l * opening_size I (depth k)) ≡ true

    pub verify-fits : verify_fits I m n k l t challenge items positions q item openings ≡ true → VerifyFits
    verify-fits h =
        let s = each-true (E.sized challenge) (sizes m n k ∷ item_count_fits l ∷ position_count_fits k t
        ∷ has_length items (l * item_size I m n) ∷ has_length positions (4 * t) ∷ has_length q (E.size (quotient_size m l))
        ∷ has_length item (item_size I m n) ∷ has_length openings (t * suc l * opening_size I (depth k)) ∷ []) h in
        record {
          challenge-sized = s.0;
          sizes-fit = s.1.0;
          count-fits = s.1.1.0;
          positions-count = s.1.1.1.0;
          items-fit = s.1.1.1.1.0;
          positions-fit = s.1.1.1.1.1.0;
          quotient-fits = s.1.1.1.1.1.1.0;
          item-fits = s.1.1.1.1.1.1.1.0;
          openings-fit = s.1.1.1.1.1.1.1.1.0;
        }

    pub record VerifyPasses : Type 0 where
      pub fits : VerifyFits
      pub below : (items_below I m n l items && elements_below q && item_below I m n item && opened_below I (depth k) (t * suc l) openings) ≡ true
      pub leading-one : items_leading_one I m n l items ≡ true
      pub permitted : E.permitted l challenge ≡ true
      pub inside : positions_below k positions ≡ true
      pub combine : Combines m n (read_items I m n l items) (elements I (quotient_size m l) q) (read_shown I m n k l t challenge positions item openings)
      pub lead : openings_lead I (read_items I m n l items) (read_shown I m n k l t challenge positions item openings) ≡ true
      pub values-combine : values_combine I (read_items I m n l items) (read_shown I m n k l t challenge positions item openings) ≡ true

    pub verify-passes : answer (verify_checks I m n k l t challenge items positions q item openings) ≡ 0 → VerifyPasses
    verify-passes e =
        let s = answer-passed (verify_checks I m n k l t challenge items positions q item openings) (omega arith) e in
        record {
          fits = verify-fits s.0;
          below = s.1.0;
          leading-one = s.1.1.0;
          permitted = s.1.1.1.0;
          inside = s.1.1.1.1.0;
          combine = item-combines m n (read_items I m n l items) (elements I (quotient_size m l) q) (read_shown I m n k l t challenge positions item openings) s.1.1.1.1.1.0;
          lead = s.1.1.1.1.1.1.0;
          values-combine = s.1.1.1.1.1.1.1.0;
        }
