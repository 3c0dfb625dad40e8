-- Casting: what checks 2 and 3 show, the value's test against e = 0, and the bytes of the new item.
use mathlib.Core.Path.{◌≡◌, refl, sym, ap, ap₂, ◌∙◌}
use mathlib.Core.Bool.{true, ◌&&◌}
use mathlib.Core.List.{List, [], ◌∷◌, ◌++◌, map, map-append}
use Prim.Native.Nat.{ℕ, ◌*◌}
use native.Mathlib.Omega.{arith}
use borrow.Author.Tests.{eqb-true}
use lib.Dec.{eqb, lit<}
use lib.ListN.{length}
use Rattle.numbers.specs.Numbers.{numbers, bytes}
use Rattle.numbers.proofs.Tests.{each-true}
use Rattle.field.specs.BabyBear.{F, val, 𝟘}
use Rattle.field.proofs.Laws.{val-zero, ofℕ-zero}
use Rattle.field.proofs.Numbers.{numbers-of-elements}
use Rattle.theory.specs.Checks.{check, answer}
use Rattle.theory.specs.Sizes.{sizes, points_fit, circuit_fits, has_length, circuit_below, elements_below, points_differ, circuit_in_order, leading_one}
use Rattle.theory.specs.Fp.{fp, circuit, holds, cast_checks, witness_root, elements, item_size, item_bytes, same_element, cast_item, cast_fits}
use Rattle.checks.proofs.WitnessLaws.{elements-numbers, numbers-below}
use Rattle.checks.proofs.Calls.{passes}
use Rattle.checks.proofs.ItemTests.{element-test}

-- ---- checks 2 and 3

pub record CastFits (m n k : ℕ) (points r x w item : List ℕ) : Type 0 where
  pub points-fit : points_fit k points ≡ true
  pub r-length : length r ≡ 4 * m
  pub x-length : length x ≡ 4 * n
  pub w-length : length w ≡ 4 * k
  pub item-length : length item ≡ item_size m n

-- m', n' and k' are sizes that were found to be m, n and k.
module _ (m n k : ℕ) (points a b c r x w item : List ℕ) {m' n' k' : ℕ} (fit : (cast_fits m n k points a b c r x w item ≡ true) × (m' ≡ m) × (n' ≡ n) × (k' ≡ k)) where
  pub at-sizes : {A : Type 0} (f : ℕ → ℕ → ℕ → A) → f m' n' k' ≡ f m n k
  at-sizes f = let em = fit.1 in let en = fit.2 in let ek = fit.3 in cc

  pub cast-fits : CastFits m' n' k' points r x w item
  cast-fits =
      let t = each-true (sizes m n k) (points_fit k points ∷ circuit_fits a b c ∷ has_length r (4 * m) ∷ has_length x (4 * n) ∷ has_length w (4 * k) ∷ has_length item (item_size m n) ∷ []) fit.0 in
      record {
        points-fit = ap (λ (k : ℕ). points_fit k points) fit.3 ∙ t.1.0;
        r-length = omega (arith, eqb-true (length r) (4 * m) t.1.1.1.0, fit.1);
        x-length = omega (arith, eqb-true (length x) (4 * n) t.1.1.1.1.0, fit.2);
        w-length = omega (arith, eqb-true (length w) (4 * k) t.1.1.1.1.1.0, fit.3);
        item-length = omega (arith, eqb-true (length item) (item_size m n) t.1.1.1.1.1.1.0, fit.1, fit.2);
      }

  -- The answer of the checks after check 2.
  pub cast-answer : {q : ℕ}
      → q ≡ answer (check 3 (circuit_below a b c && elements_below r && elements_below x && elements_below w) ∷ check 12 (points_differ points) ∷ check 4 (circuit_in_order m' n' k' a b c) ∷ check 13 (leading_one fp (elements n' x)) ∷ check 11 (holds (circuit a b c) (cast_item m' n' k' [] r x w) (elements k' w)) ∷ [])
      → q ≡ answer (cast_checks m n k points a b c r x w item)
  cast-answer e =
      passes 2 refl fit.0
      (e ∙ at-sizes (λ m n k. answer (check 3 (circuit_below a b c && elements_below r && elements_below x && elements_below w) ∷ check 12 (points_differ points) ∷ check 4 (circuit_in_order m n k a b c) ∷ check 13 (leading_one fp (elements n x)) ∷ check 11 (holds (circuit a b c) (cast_item m n k [] r x w) (elements k w)) ∷ [])))

-- ---- check 11: e is 0

pub zero_test : (v : F) {z : ℕ} → z ≡ val v → eqb z 0 ≡ same_element v 𝟘
zero_test v e = ap (λ (t : ℕ). eqb t 0) e ∙ element-test v 0 (lit< tt) ∙ ap (same_element v) ofℕ-zero

-- ---- the new item

-- The numbers of the elements of a buffer are its numbers.
values-read : (n : ℕ) (b : List ℕ) → length b ≡ 4 * n → elements_below b ≡ true → map val (elements n b) ≡ numbers b
values-read n b long small = ap (map val) (elements-numbers n b long) ∙ numbers-of-elements (numbers b) (numbers-below b small)

module _ (m n k : ℕ) (points r x w : List ℕ) (r-length : length r ≡ 4 * m) (x-length : length x ≡ 4 * n) (r_small : elements_below r ≡ true) (x-small : elements_below x ≡ true) where
  item-numbers : map val (𝟘 ∷ elements m r ++ elements n x) ≡ 0 ∷ (numbers r ++ numbers x)
  item-numbers =
      ap₂ ◌∷◌ val-zero (map-append val (elements m r) (elements n x) ∙ ap₂ ◌++◌ (values-read m r r-length r_small) (values-read n x x-length x-small))

  pub cast-bytes : {values root : List ℕ} → values ≡ 0 ∷ (numbers r ++ numbers x) → root ≡ witness_root k points (elements k w) → bytes values ++ root ≡ item_bytes (cast_item m n k points r x w)
  cast-bytes e h = ap₂ (λ (vs ds : List ℕ). bytes vs ++ ds) (e ∙ sym item-numbers) h
