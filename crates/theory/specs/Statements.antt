-- The quotient theorem, and demand 3 (paper 01, "The words of demand 3"): two statements, each one claim about byte buffers.
-- Each is stated for an instance; about the exported calls it is the one for `fp`.
use Rattle.std.specs.Prelude.{◌≡◌, ◌⊎◌, Bool, true, ◌&&◌, ℕ, suc, ◌+◌, ◌-◌, ◌*◌, ◌≤◌, ◌<◌, eqb, length, get_or}
use mathlib.Core.List.{List, [], ◌∷◌, ◌++◌, map, Memᴰ}
use Rattle.algebra.specs.Ring.{Field}
use Rattle.algebra.specs.Lists.{All, Distinct, build}
use Rattle.numbers.specs.Numbers.{numbers}
use Rattle.code.specs.Points.{depth}
use Rattle.theory.specs.R1cs.{Circuit}
use Rattle.theory.specs.Items.{Item, LeadingOne, Holds, Matches}
use Rattle.theory.specs.Combination.{item_at, Shaped, AllHold, IsQuotient, quotient_of}
use Rattle.theory.specs.Folds.{Fold, Shows, hashed_for}
use Rattle.tree.specs.Collision.{Collision}
use Rattle.theory.specs.Selection.{select, all_among, once}
use Rattle.theory.specs.Checks.{answer}
use Rattle.theory.specs.Instance.{Instance, same_element, code, codeword_of}
use Rattle.theory.specs.Buffers.{elements, circuit, read_items, witness_part, read_witness, opening_size, in_order}
use Rattle.theory.specs.Sizes.{position_count_fits, positions_below, has_length}
use Rattle.theory.specs.Results.{Folded, Opened}
use Rattle.theory.specs.Calls.{list_fits, list_checks, fold_outputs_fit, fold, «open», decide}
use Rattle.theory.specs.Verify.{verify, read_shown}

-- ---- the quotient

module _ (F : Field) where
  open F.ring use {carrier as K}

  -- There is a quotient of (l - 1) × (m + 1) coefficients exactly if every item holds, and then one only: `quotient_of`.
  pub record QuotientIsUnique (M : Circuit K) (m n k : ℕ) (items : List (Item K)) (witnesses : ℕ → List K) : Type 0 where
    pub exists-if : AllHold F M m n k items witnesses → IsQuotient F M m n k items witnesses (quotient_of F M m n k items witnesses)
    pub only_if : (q : List K) → IsQuotient F M m n k items witnesses q → AllHold F M m n k items witnesses
    pub one_only : (q : List K) → IsQuotient F M m n k items witnesses q → q ≡ quotient_of F M m n k items witnesses

  abbrev pub QuotientStatement : Type 0
  QuotientStatement =
      (M : Circuit K) (m n k : ℕ) (items : List (Item K)) (witnesses : ℕ → List K) → m ≤ 6 → length items ≤ 8
      → Shaped F m n k items witnesses → QuotientIsUnique M m n k items witnesses

-- Positions are permitted when they pass 2 and 6.
pub record PermittedPositions (k t : ℕ) (positions : List ℕ) : Type 0 where
  pub check2 : (position_count_fits k t && has_length positions (4 * t)) ≡ true
  pub check6 : positions_below k positions ≡ true

module _ (I : Instance) where
  open I use {field as F, format as E, hash as H}
  open F.ring use {carrier as K, zero as 𝟘}

  -- ---- the first statement: one chain of calls

  -- A list is honest over points when the points, the items, a witness for each and the one circuit pass checks 2, 3, 12, 4 and 13 (behind 2
  -- they are `list_checks`; by 13 every item's first input is 1), and every item holds and matches with its witness. Lent points that are
  -- empty stand for the built-in ones.
  pub record Honest (m n k l : ℕ) (points a b c items wits : List ℕ) : Type 0 where
    pub check2 : list_fits I m n k l points a b c items wits ≡ true
    pub checks : answer (list_checks I m n k l points a b c items wits) ≡ 0
    pub holds : (i : ℕ) → i < l → Holds F (circuit I a b c) (item_at F (read_items I m n l items) i) (read_witness I k wits i)
    pub matches : (i : ℕ) → i < l → Matches F H (code I k points) (item_at F (read_items I m n l items) i) (read_witness I k wits i)

  -- A challenge is permitted when it has its length and passes 5.
  abbrev pub PermittedChallenge : ℕ → E.Challenge → Type 0
  PermittedChallenge l challenge = (E.sized challenge && E.permitted l challenge) ≡ true

  -- The output buffers of the chain pass check 2: quotient, new item, new witness, and openings for each item and the new one.
  pub record OutputsFit (m n k l t : ℕ) (quotient item wit : List ℕ) (openings : ℕ → List ℕ) : Type 0 where
    pub folding : fold_outputs_fit I m n k l quotient item wit ≡ true
    pub opening : (i : ℕ) → i < suc l → has_length (openings i) (t * opening_size I (depth k)) ≡ true

  -- Every call of the chain that takes points is lent the same.
  module _ (m n k l t : ℕ) (challenge : E.Challenge) (points a b c items wits positions quotient item wit : List ℕ) (openings : ℕ → List ℕ) where
    -- Folding is given the list with its circuit and witnesses, and the challenge.
    abbrev pub folding : Folded
    folding = fold I m n k l challenge points a b c items wits quotient item wit

    -- The witnesses, and after them the new one, as folding wrote it; opening is called once for each.
    abbrev pub witnesses : List (List ℕ)
    witnesses = build l (witness_part I k wits) ++ (folding.wit ∷ [])

    abbrev pub opening : ℕ → Opened
    opening i = «open» I k t points (get_or witnesses i []) positions (openings i)

    -- Verifying gets the items, challenge and positions, the quotient and new item that folding wrote, and all the openings in order. Its
    -- answer is its verdict.
    abbrev pub verifying : ℕ
    verifying = (verify I m n k l t challenge items positions folding.quotient folding.item (in_order I (depth k) t l (λ i. (opening i).openings))).verdict

    -- Deciding gets the circuit, the new item and the new witness.
    abbrev pub deciding : ℕ
    deciding = decide I m n k points a b c folding.item folding.wit

    -- What the calls of the chain answer.
    abbrev pub chain_answers : List ℕ
    chain_answers = folding.answer ∷ (build (suc l) (λ i. (opening i).answer) ++ (verifying ∷ deciding ∷ []))

  -- For a list that is honest over some points, a permitted challenge and permitted positions, every call of the chain answers zero.
  abbrev pub FirstStatement : Type 0
  FirstStatement =
      (m n k l t : ℕ) (challenge : E.Challenge) (points a b c items wits positions quotient item wit : List ℕ) (openings : ℕ → List ℕ)
      → Honest m n k l points a b c items wits
      → PermittedChallenge l challenge
      → PermittedPositions k t positions
      → OutputsFit m n k l t quotient item wit openings
      → All (λ r. r ≡ 0) (chain_answers m n k l t challenge points a b c items wits positions quotient item wit openings)

  -- ---- the second statement: a list of folds

  -- A fold, of any bytes and from anybody: a challenge, t positions, a new item, openings and a witness for the new item. Each fold
  -- has its own t.
  pub record FoldBytes : Type 0 where
    pub t : ℕ
    pub challenge : E.Challenge
    pub positions : List ℕ
    pub item : List ℕ
    pub openings : List ℕ
    pub witness : List ℕ

  -- All folds of a list are verified and decided with the same sizes, verified with the same items and quotient, and decided with
  -- the same points and circuit.
  module _ (m n k l : ℕ) (points a b c items quotient : List ℕ) where
    -- A fold is accepted when verifying's verdict on it is zero and deciding answers zero to its new item with its witness.
    abbrev pub is_accepted : FoldBytes → Bool
    is_accepted f =
        eqb (verify I m n k l f.t f.challenge items f.positions quotient f.item f.openings).verdict 0
        && eqb (decide I m n k points a b c f.item f.witness) 0

    -- What the bytes of a fold show, and its witness.
    abbrev pub read_fold : FoldBytes → Fold K
    read_fold f = record { shown = read_shown I m n k l f.t f.challenge f.positions f.item f.openings; witness = elements I k f.witness }

    -- The byte strings hashed for a list of folds.
    abbrev pub strings_hashed : List FoldBytes → List (List ℕ)
    strings_hashed folds = hashed_for F (read_items I m n l items) H (code I k points) (map read_fold folds)

    -- A witness of k elements whose codeword has the given values at the positions.
    pub record HasValues (ps : List ℕ) (values : ℕ → K) (w : List K) : Type 0 where
      pub size : length w ≡ k
      pub values-at : (p : ℕ) → Memᴰ p ps → get_or (codeword_of I k points w) p 𝟘 ≡ values p

    -- The folds show one value of each item at each of the positions; the codeword of exactly one witness has these values;
    -- and each item holds with it and has 1 as its first input.
    pub record EachHolds (ps : List ℕ) (folds : List FoldBytes) : Type 0 where
      pub values : ℕ → ℕ → K
      pub shows : (f : FoldBytes) → Memᴰ f folds → (i p : ℕ) → i < l → Memᴰ p ps
          → Shows F (read_items I m n l items) (read_fold f).shown i p (values i p)
      pub shows-only : (f : FoldBytes) → Memᴰ f folds → (i p : ℕ) → i < l → Memᴰ p ps → (v : K)
          → Shows F (read_items I m n l items) (read_fold f).shown i p v → v ≡ values i p
      pub witness : ℕ → List K
      pub witness-has : (i : ℕ) → i < l → HasValues ps (values i) (witness i)
      pub witness-only : (i : ℕ) → i < l → (w : List K) → HasValues ps (values i) w → w ≡ witness i
      pub holds : (i : ℕ) → i < l → Holds F (circuit I a b c) (item_at F (read_items I m n l items) i) (witness i)
      pub leading-one : (i : ℕ) → i < l → LeadingOne F (item_at F (read_items I m n l items) i).x

    -- The folds of a list that are accepted and open all of the positions ps, and their different challenges, as elements: an
    -- accepted challenge is its element's own number.
    abbrev pub chosen : List ℕ → List FoldBytes → List FoldBytes
    chosen ps folds = select (λ f. is_accepted f && all_among ps (numbers f.positions)) folds

    abbrev pub challenges : List FoldBytes → List K
    challenges folds = once (same_element I) (map (λ f. E.element f.challenge) folds)

  -- Of any list of folds, refused ones too, take the accepted ones that open all of k different positions. If they have more than
  -- (l - 1) × (m + 2) different challenges, two different byte strings hashed for them have one digest, or each item holds.
  -- That number is the degree in the challenge of the equation that an accepted fold tests.
  abbrev pub SecondStatement : Type 0
  SecondStatement =
      (m n k l : ℕ) (points a b c items quotient : List ℕ) (folds : List FoldBytes) (ps : List ℕ) → length ps ≡ k → Distinct ps
      → let kept = chosen m n k l points a b c items quotient ps folds in let strings = strings_hashed m n k l points a b c items quotient kept in
      (l - 1) * (m + 2) < length (challenges m n k l points a b c items quotient kept)
      → Collision H.digest strings strings ⊎ EachHolds m n k l points a b c items quotient ps kept
