-- What is drawn by hash: a challenge, positions, and r for casting (paper 02, "Challenges drawn by hash"). Each string hashed begins with a byte of
-- its own; a number goes in as four bytes, lowest first, and a buffer as it lies. The calls run their checks in the paper's order.
use Rattle.std.specs.Prelude.{Bool, ◌&&◌, List, [], ◌∷◌, ◌++◌, ℕ, ◌+◌, ◌-◌, ◌*◌, ◌%◌, ◌^◌}
use Rattle.algebra.specs.Lists.{build}
use Rattle.numbers.specs.Numbers.{bytes4, bytes}
use Rattle.field.specs.BabyBear.{p}
use Rattle.hash.specs.Sha256.{digest}
use Rattle.code.specs.Points.{is_witness_count}
use Rattle.theory.specs.Combination.{quotient_size}
use Rattle.theory.specs.Checks.{Check, check, answer, written}
use Rattle.theory.specs.Buffers.{number_at}
use Rattle.theory.specs.Sizes.{claim_sizes, sizes, item_count_fits, position_count_fits, has_length, elements_below, leading_one, items_leading_one}
use Rattle.theory.specs.Fp.{fp, challenge_fits, elements, item_size, items_below}

-- ---- what is hashed

-- m, n, k, l, every item (e, r, x, root) and the quotient's coefficients.
abbrev pub seed_message : ℕ → ℕ → ℕ → ℕ → List ℕ → List ℕ → List ℕ
seed_message m n k l items quotient = (0x02 ∷ []) ++ bytes4 m ++ bytes4 n ++ bytes4 k ++ bytes4 l ++ items ++ quotient

abbrev pub challenge_message : List ℕ → List ℕ
challenge_message seed = (0x03 ∷ []) ++ seed

-- The root is that of the new item.
abbrev pub position_message : List ℕ → ℕ → List ℕ → ℕ → List ℕ
position_message seed challenge root j = (0x04 ∷ []) ++ seed ++ bytes4 challenge ++ root ++ bytes4 j

abbrev pub r_message : List ℕ → List ℕ → ℕ → List ℕ
r_message root x j = (0x05 ∷ []) ++ root ++ x ++ bytes4 j

-- ---- what is drawn

-- The number in the first four bytes, and in the first eight, lowest first.
abbrev pub four : List ℕ → ℕ
four d = number_at d 0

abbrev pub eight : List ℕ → ℕ
eight d = number_at d 0 + 2 ^ 32 * number_at d 1

unfoldable pub seed_of : ℕ → ℕ → ℕ → ℕ → List ℕ → List ℕ → List ℕ
seed_of m n k l items quotient = digest (seed_message m n k l items quotient)

unfoldable pub challenge_of : ℕ → List ℕ → ℕ
challenge_of l seed = l + eight (digest (challenge_message seed)) % (p - l)

unfoldable pub position_of : ℕ → List ℕ → ℕ → List ℕ → ℕ → ℕ
position_of k seed challenge root j = four (digest (position_message seed challenge root j)) % (4 * k)

unfoldable pub r_of : List ℕ → List ℕ → ℕ → ℕ
r_of root x j = eight (digest (r_message root x j)) % p

-- ---- drawing a challenge: writes the seed too

pub record DrawnChallenge : Type 0 where
  pub answer : ℕ
  pub seed : List ℕ
  pub challenge : List ℕ

abbrev pub draw_challenge_fits : ℕ → ℕ → ℕ → ℕ → List ℕ → List ℕ → List ℕ → List ℕ → Bool
draw_challenge_fits m n k l items quotient seed challenge =
    sizes m n k && item_count_fits l && has_length items (l * item_size m n) && has_length quotient (4 * quotient_size m l) && has_length seed 32 && has_length challenge 4

abbrev pub draw_challenge_checks : ℕ → ℕ → ℕ → ℕ → List ℕ → List ℕ → List ℕ → List ℕ → List Check
draw_challenge_checks m n k l items quotient seed challenge =
    check 2 (draw_challenge_fits m n k l items quotient seed challenge)
    ∷ check 3 (items_below m n l items && elements_below quotient)
    ∷ check 13 (items_leading_one fp m n l items)
    ∷ []

unfoldable pub draw_challenge : ℕ → ℕ → ℕ → ℕ → List ℕ → List ℕ → List ℕ → List ℕ → DrawnChallenge
draw_challenge m n k l items quotient seed challenge =
    let answered = answer (draw_challenge_checks m n k l items quotient seed challenge) in
    let drawn = seed_of m n k l items quotient in
    record { answer = answered; seed = written answered drawn seed; challenge = written answered (bytes4 (challenge_of l drawn)) challenge }

-- ---- drawing t positions

pub record DrawnPositions : Type 0 where
  pub answer : ℕ
  pub positions : List ℕ

abbrev pub draw_positions_fits : ℕ → ℕ → ℕ → List ℕ → List ℕ → List ℕ → Bool
draw_positions_fits k l t seed root positions =
    is_witness_count k && item_count_fits l && position_count_fits k t && has_length seed 32 && has_length root 32 && has_length positions (4 * t)

abbrev pub draw_positions_checks : ℕ → ℕ → ℕ → ℕ → List ℕ → List ℕ → List ℕ → List Check
draw_positions_checks k l t challenge seed root positions = check 2 (draw_positions_fits k l t seed root positions) ∷ check 5 (challenge_fits l challenge) ∷ []

unfoldable pub draw_positions : ℕ → ℕ → ℕ → ℕ → List ℕ → List ℕ → List ℕ → DrawnPositions
draw_positions k l t challenge seed root positions =
    let answered = answer (draw_positions_checks k l t challenge seed root positions) in
    record { answer = answered; positions = written answered (bytes (build t (position_of k seed challenge root))) positions }

-- ---- drawing r for casting

pub record DrawnR : Type 0 where
  pub answer : ℕ
  pub r : List ℕ

abbrev pub draw_r_fits : ℕ → ℕ → List ℕ → List ℕ → List ℕ → Bool
draw_r_fits m n root x r = claim_sizes m n && has_length root 32 && has_length x (4 * n) && has_length r (4 * m)

abbrev pub draw_r_checks : ℕ → ℕ → List ℕ → List ℕ → List ℕ → List Check
draw_r_checks m n root x r = check 2 (draw_r_fits m n root x r) ∷ check 3 (elements_below x) ∷ check 13 (leading_one fp (elements n x)) ∷ []

unfoldable pub draw_r : ℕ → ℕ → List ℕ → List ℕ → List ℕ → DrawnR
draw_r m n root x r =
    let answered = answer (draw_r_checks m n root x r) in
    record { answer = answered; r = written answered (bytes (build m (r_of root x))) r }
