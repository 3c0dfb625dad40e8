-- The starred cases of paper 01, "Cases": for each, what the definitions give and what the paper says, as numbers below p.
-- The circuit is w0 × w1 = x1: one row, two public inputs of which the first is 1, two witness numbers.
use Rattle.std.specs.Prelude.{List, [], ◌∷◌, ◌++◌, map, ℕ, zero, suc, get_or}
use Rattle.algebra.specs.Lists.{build}
use Rattle.field.specs.BabyBear.{baby_bear, R, F, val, ofℕ, 𝟘, 𝟙}
use Rattle.theory.specs.R1cs.{Entry, Circuit, weight, value}
use Rattle.theory.specs.Items.{Item}
use Rattle.theory.specs.Combination.{L, new_r, new_x, new_w, new_e, combined_value, quotient_of}
use Rattle.theory.specs.Fp.{codeword_of, witness_root}

-- A case: its number in the paper, the numbers worked out, and those that the paper says.
pub record Case : Type 0 where
  pub number : ℕ
  pub computed : List ℕ
  pub expected : List ℕ

abbrev pub case : ℕ → List F → List ℕ → Case
case n computed expected = record { number = n; computed = map val computed; expected = expected }

-- The elements of numbers.
abbrev pub listed : List ℕ → List F
listed ns = map ofℕ ns

-- ---- the circuit, items and witnesses

-- A matrix of one entry, a 1 in row 0.
abbrev pub one_at : ℕ → List (Entry F)
one_at column = record { row = 0; column = column; value = 𝟙 } ∷ []

abbrev pub product : Circuit F
product = record { A = one_at 2; B = one_at 3; C = one_at 1 }

-- The public inputs: 1 and a number.
abbrev pub inputs : ℕ → List F
inputs x = listed (1 ∷ x ∷ [])

abbrev pub item_with : ℕ → Item F
item_with x = record { e = 𝟘; r = []; x = inputs x; root = [] }

-- Two items that hold with the witnesses (2, 3) and (4, 5), and two of which the second does not.
abbrev pub good : List (Item F)
good = item_with 6 ∷ item_with 20 ∷ []

abbrev pub bad : List (Item F)
bad = item_with 6 ∷ item_with 21 ∷ []

abbrev pub witness : ℕ → List F
witness zero = listed (2 ∷ 3 ∷ [])
witness (suc i) = listed (4 ∷ 5 ∷ [])

abbrev pub quotient : List F
quotient = quotient_of baby_bear product 0 2 2 good witness

-- A list of one item, with two rows, whose root is that of its witness.
abbrev pub one : Item F
one = record { e = ofℕ 5; r = listed (7 ∷ []); x = inputs 6; root = witness_root 2 [] (witness 0) }

abbrev pub single : List (Item F)
single = one ∷ []

abbrev pub single_quotient : List F
single_quotient = quotient_of baby_bear product 1 2 2 single witness

-- ---- the cases

-- At a challenge: the new x and w, the new e from a quotient, and the value at the new x and w.
abbrev pub new_xw : List (Item F) → ℕ → List F
new_xw items a = new_x baby_bear 2 items (ofℕ a) ++ new_w baby_bear 2 2 witness (ofℕ a)

abbrev pub new_e_from : List F → List (Item F) → ℕ → List F
new_e_from q items a = new_e baby_bear items q (ofℕ a) ∷ []

abbrev pub new_value : List (Item F) → ℕ → List F
new_value items a = combined_value baby_bear product 0 2 2 items witness (ofℕ a) ∷ []

abbrev pub cases : List Case
cases =
    case 1 (value R product [] (inputs 6) (listed (2 ∷ 3 ∷ [])) ∷ []) (0 ∷ [])
    ∷ case 2 (value R product [] (inputs 21) (listed (4 ∷ 5 ∷ [])) ∷ []) (2013265920 ∷ [])
    ∷ case 3 (build 4 (weight R (listed (2 ∷ 5 ∷ [])))) (4 ∷ 2013265913 ∷ 2013265916 ∷ 10 ∷ [])
    ∷ case 4 (build 2 (λ i. L baby_bear 2 i (ofℕ 2))) (2013265920 ∷ 2 ∷ [])
    ∷ case 5 quotient (4 ∷ [])
    ∷ case 6 (new_xw good 2 ++ new_e_from quotient good 2) (1 ∷ 34 ∷ 6 ∷ 7 ∷ 8 ∷ [])
    ∷ case 7 (new_xw good 3 ++ new_e_from quotient good 3) (1 ∷ 48 ∷ 8 ∷ 9 ∷ 24 ∷ [])
    -- At 2 the value is e, and the new item holds; at 3 it differs.
    ∷ case 8 (new_xw bad 2 ++ new_value bad 2 ++ new_e_from (listed (3 ∷ [])) bad 2) (1 ∷ 36 ∷ 6 ∷ 7 ∷ 6 ∷ 6 ∷ [])
    ∷ case 8 (new_value bad 3 ++ new_e_from (listed (3 ∷ [])) bad 3) (21 ∷ 18 ∷ [])
    ∷ case 9 (get_or (codeword_of 2 [] (witness 0)) 0 𝟘 ∷ get_or (codeword_of 2 [] (witness 0)) 4 𝟘 ∷ []) (5 ∷ 2013265920 ∷ [])
    -- No coefficients; e, r, x and w of the item come back, and so does its root: the new item's is that of the new witness.
    ∷ case 10 single_quotient []
    ∷ case 10 (new_e_from single_quotient single 1 ++ new_r baby_bear 1 single (ofℕ 1) ++ new_x baby_bear 2 single (ofℕ 1) ++ new_w baby_bear 2 1 witness (ofℕ 1)) (5 ∷ 7 ∷ 1 ∷ 6 ∷ 2 ∷ 3 ∷ [])
    ∷ record { number = 10; computed = witness_root 2 [] (new_w baby_bear 2 1 witness (ofℕ 1)); expected = one.root }
    ∷ []
