-- What an accepted fold has: verifying and deciding answer 0 to it, so each of their checks passes.
use mathlib.Core.Path.{◌≡◌, sym, ◌∙◌, ap}
use mathlib.Core.Bool.{true}
use mathlib.Core.List.{List}
use Prim.Native.Nat.{ℕ, suc, ◌*◌, ◌≤◌, ◌<◌}
use native.Mathlib.Omega.{arith}
use borrow.Author.Tests.{eqb-true}
use lib.Dec.{eqb}
use lib.ListN.{length}
use Rattle.algebra.proofs.ListLaws.{length-build}
use Rattle.numbers.proofs.Bytes.{length-numbers}
use Rattle.numbers.proofs.Bounds.{below}
use Rattle.numbers.proofs.Tests.{and_left, and_right, equal-bytes}
use Rattle.code.specs.Points.{is_witness_count, depth}
use Rattle.tree.proofs.ReadBack.{digests-length}
use Rattle.theory.specs.Items.{Item, LeadingOne}
use Rattle.theory.specs.Combination.{item_at, quotient_size, Shaped}
use Rattle.theory.specs.Folds.{Opening, Shown, Fold, position_count, opening_at}
use Rattle.theory.specs.Instance.{Instance, code}
use Rattle.theory.specs.Buffers.{elements, circuit, item_size, read_items, read_witness}
use Rattle.theory.specs.Calls.{decide}
use Rattle.theory.specs.Verify.{verify}
use Rattle.theory.specs.Statements.{FoldBytes, is_accepted, read_fold}
use Rattle.theory.proofs.Passing.{CodeLaws, Passes}
use Rattle.theory.proofs.InstanceLaws.{InstanceLaws}
use Rattle.theory.proofs.LentPoints.{code_laws}
use Rattle.theory.proofs.CheckLaws.{every_true}
use Rattle.theory.proofs.Passed.{VerifyPasses, verify-passes, DecidePasses, decide-passes}
use Rattle.theory.proofs.Equality.{equal-element}
use Rattle.theory.proofs.HonestList.{witness-count, some_item, few-items}
use Rattle.theory.proofs.LeadingOne.{items-leading-one}
use Rattle.theory.proofs.Reading.{length-read_items, read-shaped, one-matches, one_holds, opening_at-read_shown}

module _ (I : Instance) (m n k l : ℕ) (points a b c items quotient : List ℕ) (f : FoldBytes I) (accepted : is_accepted I m n k l points a b c items quotient f ≡ true) where
  open I use {field as F, format as E, hash as H}
  open F.ring use {carrier as K}

  abbrev batch : List (Item K)
  batch = read_items I m n l items

  abbrev coefficients : List K
  coefficients = elements I (quotient_size m l) quotient

  abbrev fold : Fold K
  fold = read_fold I m n k l points a b c items quotient f

  abbrev shown : Shown K
  shown = fold.shown

  -- ---- both calls answer 0

  abbrev verifying : ℕ
  verifying = (verify I m n k l f.t f.challenge items f.positions quotient f.item f.openings).verdict

  abbrev deciding : ℕ
  deciding = decide I m n k points a b c f.item f.witness

  verified : VerifyPasses I m n k l f.t f.challenge items f.positions quotient f.item f.openings
  unfolding verify
  verified = verify-passes I m n k l f.t f.challenge items f.positions quotient f.item f.openings
      (eqb-true verifying 0 (and_left (eqb verifying 0) (eqb deciding 0) accepted))

  decided : DecidePasses I m n k points a b c f.item f.witness
  unfolding decide
  decided = decide-passes I m n k points a b c f.item f.witness (eqb-true deciding 0 (and_right (eqb verifying 0) (eqb deciding 0) accepted))

  -- ---- sizes and counts

  counted : is_witness_count k ≡ true
  counted = witness-count m n k verified.fits.sizes-fit

  pub at-most-eight : l ≤ 8
  at-most-eight = few-items l verified.fits.count-fits

  position-count : position_count shown ≡ f.t
  position-count = length-numbers f.t f.positions (eqb-true (length f.positions) (4 * f.t) verified.fits.positions-fit)

  item-size : length f.item ≡ item_size I m n
  item-size = eqb-true (length f.item) (item_size I m n) verified.fits.item-fits

  witness-size : length f.witness ≡ E.size k
  witness-size = eqb-true (length f.witness) (E.size k) decided.fits.wit-fits

  -- Deciding was lent 4k different points, or none.
  pub accepted-code : InstanceLaws I → CodeLaws K (code I k points)
  accepted-code laws = code_laws I laws k counted points decided.fits.points-fit decided.list.differ

  -- ---- check 13: the first inputs

  pub accepted-leading-one : (i : ℕ) → i < l → LeadingOne F (item_at F batch i).x
  accepted-leading-one = items-leading-one I m n l items verified.leading-one

  -- ---- what the buffers are read as

  item_count : length batch ≡ l
  item_count = length-read_items I m n l items

  shaped : Shaped F m n k batch (read_witness I k f.witness)
  shaped = read-shaped I m n l items k f.witness (some_item l verified.fits.count-fits)

  siblings : (q : ℕ) → q < position_count shown → (i : ℕ) → i < suc (length batch) → length (opening_at F batch shown q i).siblings ≡ depth k
  siblings q h i j =
      ap (λ (o : Opening K). length o.siblings)
      (opening_at-read_shown I m n k l f.t f.challenge items f.positions f.item f.openings q i (omega (arith, position-count)) (omega (arith, item_count)))
      ∙ digests-length f.openings _ (depth k)

  pub passes : Passes F H (code I k points) (circuit I a b c) m n batch coefficients fold
  passes = record {
    some_item = shaped.some_item;
    item-r = shaped.item-r;
    item-x = shaped.item-x;
    coefficients = length-build (quotient_size m l) _ ∙ ap (quotient_size m) (sym item_count);
    siblings = siblings;
    witness = length-build k _;
    inside = below (4 * k) shown.positions verified.inside;
    new-r = verified.combine.new-r;
    new-x = verified.combine.new-x;
    new-e = verified.combine.new-e;
    leads = λ q h i j. equal-bytes _ _ (every_true _ _ (every_true _ _ verified.lead q h) i j);
    combines = λ q h. equal-element I _ _ (every_true _ _ verified.values-combine q h);
    matches = equal-bytes _ _ (sym (one-matches I m n k f.item f.witness item-size witness-size points) ∙ decided.claims.all-match);
    holds = equal-element I _ _ (sym (one_holds I m n k f.item f.witness item-size witness-size a b c) ∙ decided.claims.all-hold);
  }
