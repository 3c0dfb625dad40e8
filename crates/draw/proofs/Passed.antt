-- What a draw's answer 0 says, by name. The order of the checks is used here alone.
use mathlib.Core.Path.{◌≡◌}
use mathlib.Core.Bool.{true, ◌&&◌}
use mathlib.Core.List.{List, [], ◌∷◌}
use Prim.Native.Nat.{ℕ, ◌*◌}
use native.Mathlib.Omega.{arith}
use borrow.Author.Tests.{eqb-true}
use lib.ListN.{length}
use Rattle.numbers.proofs.Tests.{each-true}
use Rattle.code.specs.Points.{is_witness_count}
use Rattle.theory.specs.Combination.{quotient_size}
use Rattle.theory.specs.Checks.{answer}
use Rattle.theory.specs.Sizes.{sizes, item_count_fits, position_count_fits, has_length, elements_below, items_leading_one}
use Rattle.theory.specs.Fp.{fp, challenge_fits, item_size, items_below}
use Rattle.theory.proofs.CheckLaws.{answer-passed}
use Rattle.draw.specs.Draw.{draw_challenge_fits, draw_challenge_checks, draw_positions_fits, draw_positions_checks}

-- ---- drawing a challenge

module _ (m n k l : ℕ) (items quotient seed challenge : List ℕ) where
  pub record ChallengeFits : Type 0 where
    pub sizes-fit : sizes m n k ≡ true
    pub count-fits : item_count_fits l ≡ true
    pub items-length : length items ≡ l * item_size m n
    pub quotient-length : length quotient ≡ 4 * quotient_size m l
    pub seed-length : length seed ≡ 32
    pub challenge-length : length challenge ≡ 4

  pub challenge-fits : draw_challenge_fits m n k l items quotient seed challenge ≡ true → ChallengeFits
  challenge-fits h =
      let t = each-true (sizes m n k) (item_count_fits l ∷ has_length items (l * item_size m n) ∷ has_length quotient (4 * quotient_size m l) ∷ has_length seed 32 ∷ has_length challenge 4 ∷ []) h in
      record {
        sizes-fit = t.0;
        count-fits = t.1.0;
        items-length = eqb-true (length items) (l * item_size m n) t.1.1.0;
        quotient-length = eqb-true (length quotient) (4 * quotient_size m l) t.1.1.1.0;
        seed-length = eqb-true (length seed) 32 t.1.1.1.1.0;
        challenge-length = eqb-true (length challenge) 4 t.1.1.1.1.1.0;
      }

  pub record ChallengePasses : Type 0 where
    pub fits : ChallengeFits
    pub below : (items_below m n l items && elements_below quotient) ≡ true
    pub leading-one : items_leading_one fp m n l items ≡ true

  pub challenge-passes : answer (draw_challenge_checks m n k l items quotient seed challenge) ≡ 0 → ChallengePasses
  challenge-passes e =
      let t = answer-passed (draw_challenge_checks m n k l items quotient seed challenge) (omega arith) e in
      record { fits = challenge-fits t.0; below = t.1.0; leading-one = t.1.1.0 }

-- ---- drawing positions

module _ (k l t challenge : ℕ) (seed root positions : List ℕ) where
  pub record PositionsFit : Type 0 where
    pub count : is_witness_count k ≡ true
    pub count-fits : item_count_fits l ≡ true
    pub positions-count : position_count_fits k t ≡ true
    pub seed-length : length seed ≡ 32
    pub root-length : length root ≡ 32
    pub positions-length : length positions ≡ 4 * t

  pub positions-fit : draw_positions_fits k l t seed root positions ≡ true → PositionsFit
  positions-fit h =
      let s = each-true (is_witness_count k) (item_count_fits l ∷ position_count_fits k t ∷ has_length seed 32 ∷ has_length root 32 ∷ has_length positions (4 * t) ∷ []) h in
      record {
        count = s.0;
        count-fits = s.1.0;
        positions-count = s.1.1.0;
        seed-length = eqb-true (length seed) 32 s.1.1.1.0;
        root-length = eqb-true (length root) 32 s.1.1.1.1.0;
        positions-length = eqb-true (length positions) (4 * t) s.1.1.1.1.1.0;
      }

  pub record PositionsPass : Type 0 where
    pub fits : PositionsFit
    pub permitted : challenge_fits l challenge ≡ true

  pub positions-pass : answer (draw_positions_checks k l t challenge seed root positions) ≡ 0 → PositionsPass
  positions-pass e =
      let s = answer-passed (draw_positions_checks k l t challenge seed root positions) (omega arith) e in
      record { fits = positions-fit s.0; permitted = s.1.0 }
