-- Opening a witness at permitted positions: it answers 0, and writes the opening of each position.
use mathlib.Core.Path.{◌≡◌}
use mathlib.Core.Bool.{true}
use mathlib.Core.List.{List}
use Prim.Native.Nat.{ℕ, ◌*◌}
use borrow.Author.Tests.{eq-eqb, eqb-true}
use lib.ListN.{length}
use Rattle.numbers.specs.Numbers.{numbers}
use Rattle.numbers.proofs.Bytes.{length-numbers}
use Rattle.numbers.proofs.Tests.{and_left, and_right, ◌&◌}
use Rattle.tree.proofs.Completeness.{path-length}
use Rattle.tree.proofs.ReadBack.{path-long}
use Rattle.code.specs.Points.{is_witness_count, depth}
use Rattle.theory.specs.Items.{leaves}
use Rattle.theory.specs.Instance.{Instance, codeword_of}
use Rattle.theory.specs.Buffers.{elements, opening_size}
use Rattle.theory.specs.Sizes.{position_count_fits, has_length, points_fit, elements_below, points_differ}
use Rattle.theory.specs.Calls.{opening_of, openings_of, open_checks, «open»}
use Rattle.theory.specs.Statements.{PermittedPositions}
use Rattle.theory.proofs.CheckLaws.{passed-answer, written-accepted}
use Rattle.theory.proofs.InstanceLaws.{InstanceLaws}
use Rattle.theory.proofs.OpeningBytes.{Siblings}

-- An opening has as many siblings as the tree is deep, of 32 bytes each.
pub opening-siblings : (I : Instance) → InstanceLaws I → (k : ℕ) (points : List ℕ) (w : List I.field.ring.carrier) (p : ℕ) → Siblings (depth k) (opening_of I k points w p)
opening-siblings I laws k points w p = record {
  count = path-length I.hash.digest (leaves I.field I.hash (codeword_of I k points w)) 0 (depth k) p;
  long = path-long I.hash.digest laws.hash-laws.digest-length (leaves I.field I.hash (codeword_of I k points w)) 0 (depth k) p;
}

module _ {k t : ℕ} {positions : List ℕ} (permitted : PermittedPositions k t positions) where
  -- ---- permitted positions

  pub position-count-fits : position_count_fits k t ≡ true
  position-count-fits = and_left (position_count_fits k t) (has_length positions (4 * t)) permitted.check2

  pub positions-fit : has_length positions (4 * t) ≡ true
  positions-fit = and_right (position_count_fits k t) (has_length positions (4 * t)) permitted.check2

  pub position-count : length (numbers positions) ≡ t
  position-count = length-numbers t positions (eqb-true (length positions) (4 * t) positions-fit)

  -- ---- the call

  module _ (I : Instance) (points w openings : List ℕ) (counted : is_witness_count k ≡ true) (points-fit : points_fit k points ≡ true) (differ : points_differ points ≡ true)
      (w-size : length w ≡ I.format.size k) (w-below : elements_below w ≡ true)
      (openings-fit : has_length openings (t * opening_size I (depth k)) ≡ true) where
    pub opening-answers : («open» I k t points w positions openings).answer ≡ 0
    unfolding «open»
    opening-answers = passed-answer (open_checks I k t points w positions openings)
        (counted & position-count-fits & points-fit & eq-eqb _ _ w-size & positions-fit & openings-fit, (w-below, (differ, (permitted.check6, tt))))

    pub wrote-openings : («open» I k t points w positions openings).openings ≡ openings_of I k t points (elements I k w) (numbers positions)
    unfolding «open»
    wrote-openings = written-accepted _ openings opening-answers
