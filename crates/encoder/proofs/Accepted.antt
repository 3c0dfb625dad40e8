-- What check 2 of a call says of its buffers.
use mathlib.Core.Path.{◌≡◌, ap, ◌∙◌}
use mathlib.Core.Bool.{true}
use mathlib.Core.List.{List, [], ◌∷◌}
use Prim.Native.Nat.{ℕ, suc, ◌*◌, ◌≤◌}
use native.Mathlib.Nat.{mul_assoc, mul_comm}
use borrow.Author.Tests.{eqb-true}
use lib.ListN.{length}
use Rattle.numbers.proofs.Tests.{each-true}
use Rattle.tree.specs.Layout.{opening_size}
use Rattle.code.specs.Points.{is_witness_count, depth}
use Rattle.theory.specs.Sizes.{has_length, item_count_fits, position_count_fits, points_fit}
use Rattle.theory.specs.Fp.{encode_fits, open_fits, interleave_fits}
use Rattle.theory.proofs.HonestList.{few-items}

pub record EncodeFits (k : ℕ) (points w code root : List ℕ) : Type 0 where
  pub count : is_witness_count k ≡ true
  pub points-fit : points_fit k points ≡ true
  pub w-length : length w ≡ 4 * k
  pub code-length : length code ≡ 4 * (4 * k)
  pub root-length : length root ≡ 32

pub encode-fits : (k : ℕ) (points w code root : List ℕ) → encode_fits k points w code root ≡ true → EncodeFits k points w code root
encode-fits k points w code root e =
    let t = each-true (is_witness_count k) (points_fit k points ∷ has_length w (4 * k) ∷ has_length code (4 * (4 * k)) ∷ has_length root 32 ∷ []) e in
    record {
      count = t.0;
      points-fit = t.1.0;
      w-length = eqb-true (length w) (4 * k) t.1.1.0;
      code-length = eqb-true (length code) (4 * (4 * k)) t.1.1.1.0;
      root-length = eqb-true (length root) 32 t.1.1.1.1.0;
    }

pub record OpenFits (k t : ℕ) (points w positions openings : List ℕ) : Type 0 where
  pub count : is_witness_count k ≡ true
  pub points-fit : points_fit k points ≡ true
  pub w-length : length w ≡ 4 * k
  pub positions-length : length positions ≡ 4 * t
  pub openings-length : length openings ≡ t * opening_size (depth k)

pub open-fits : (k t : ℕ) (points w positions openings : List ℕ) → open_fits k t points w positions openings ≡ true → OpenFits k t points w positions openings
open-fits k t points w positions openings e =
    let s = each-true (is_witness_count k) (position_count_fits k t ∷ points_fit k points ∷ has_length w (4 * k) ∷ has_length positions (4 * t) ∷ has_length openings (t * opening_size (depth k)) ∷ []) e in
    record {
      count = s.0;
      points-fit = s.1.1.0;
      w-length = eqb-true (length w) (4 * k) s.1.1.1.0;
      positions-length = eqb-true (length positions) (4 * t) s.1.1.1.1.0;
      openings-length = eqb-true (length openings) (t * opening_size (depth k)) s.1.1.1.1.1.0;
    }

-- The first buffer is read witness by witness, the second written position by position.
pub record InterleaveFits (k l t : ℕ) (opened openings : List ℕ) : Type 0 where
  pub count : is_witness_count k ≡ true
  pub few : l ≤ 8
  pub opened-length : length opened ≡ suc l * (t * opening_size (depth k))
  pub openings-length : length openings ≡ t * (suc l * opening_size (depth k))

pub interleave-fits : (k l t : ℕ) (opened openings : List ℕ) → interleave_fits k l t opened openings ≡ true → InterleaveFits k l t opened openings
interleave-fits k l t opened openings e =
    let size = opening_size (depth k) in
    let s = each-true (is_witness_count k) (item_count_fits l ∷ position_count_fits k t ∷ has_length opened (t * suc l * size) ∷ has_length openings (t * suc l * size) ∷ []) e in
    record {
      count = s.0;
      few = few-items l s.1.0;
      opened-length = eqb-true (length opened) (t * suc l * size) s.1.1.1.0 ∙ ap (λ (n : ℕ). n * size) (mul_comm t (suc l)) ∙ mul_assoc (suc l) t size;
      openings-length = eqb-true (length openings) (t * suc l * size) s.1.1.1.1.0 ∙ mul_assoc t (suc l) size;
    }
