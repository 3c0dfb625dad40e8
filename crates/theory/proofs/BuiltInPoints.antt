-- The built-in points, lent by hand, give what the empty buffer gives: they pass checks 2 and 12, they are then the points that are used, and
-- every call that takes points answers and writes the same.
use mathlib.Core.Path.{◌≡◌, refl, ap, ◌∙◌}
use mathlib.Core.Bool.{Bool, true, false, ◌||◌}
use mathlib.Core.List.{List, [], map}
use Prim.Native.Nat.{ℕ, ◌*◌}
use native.Mathlib.Omega.{arith}
use borrow.Author.Tests.{eq-eqb}
use lib.ListN.{length}
use Rattle.algebra.specs.Lists.{Distinct}
use Rattle.algebra.proofs.ListLaws.{All-from, distinct-map}
use Rattle.numbers.specs.Numbers.{numbers}
use Rattle.numbers.proofs.Bounds.{all-below}
use Rattle.numbers.proofs.Bytes.{numbers-bytes}
use Rattle.numbers.proofs.Differences.{different-passes}
use Rattle.numbers.proofs.Tests.{◌&◌}
use Rattle.field.specs.BabyBear.{p, val, ofℕ}
use Rattle.field.proofs.Laws.{val_inj}
use Rattle.field.proofs.Numbers.{elements-of-numbers}
use Rattle.code.specs.Points.{is_witness_count, points}
use Rattle.code.proofs.Sizes.{count-positive}
use Rattle.code.proofs.Points.{points-length}
use Rattle.code.proofs.Different.{points-distinct}
use Rattle.theory.specs.Sizes.{has_length, points_fit, points_differ}
use Rattle.theory.specs.Calls as calls
use Rattle.theory.specs.Fp.{fp, points_of, element_bytes, encode, cast, quotient, fold, «open», decide}
use Rattle.theory.proofs.FpLaws.{values-below, below_word, fp-format}
use Rattle.theory.proofs.LentPoints.{none_differ, points-lent}

or_right : (a : Bool) {b : Bool} → b ≡ true → (a || b) ≡ true
or_right true e = refl
or_right false e = e

module _ (k : ℕ) (counted : is_witness_count k ≡ true) where
  -- Their bytes.
  abbrev by_hand : List ℕ
  by_hand = element_bytes (points k)

  long : length by_hand ≡ 4 * (4 * k)
  long = fp-format.length-bytes_of (points k) ∙ ap (λ (n : ℕ). 4 * n) (points-length k)

  held : numbers by_hand ≡ map val (points k)
  held = numbers-bytes (map val (points k)) (below_word (points k))

  -- They pass check 2 and check 12, and are the points that are used.
  pub by-hand-fit : points_fit k by_hand ≡ true
  by-hand-fit = or_right (has_length by_hand 0) (eq-eqb (length by_hand) (4 * (4 * k)) long)

  pub by-hand-differ : points_differ by_hand ≡ true
  by-hand-differ = rw held (all-below p (map val (points k)) (values-below (points k)) & different-passes (map val (points k)) different)
    where
      different : Distinct (map val (points k))
      different = distinct-map {P = λ a. Unit {0}} val (λ a b h l e. val_inj a b e) (points k) (All-from (points k) (λ a m. tt)) (points-distinct k counted)

  pub by-hand-used : points_of k by_hand ≡ points_of k []
  by-hand-used = points-lent fp k by_hand (λ e. omega (arith, long, count-positive k counted)) ∙ ap (map ofℕ) held ∙ elements-of-numbers (points k)

  -- ---- the calls

  passes-as-none : points_differ by_hand ≡ points_differ []
  passes-as-none = by-hand-differ ∙ none_differ [] refl

  pub encode-by-hand : (w code root : List ℕ) → encode k by_hand w code root ≡ encode k [] w code root
  unfolding calls.encode
  encode-by-hand w code root = rw (by-hand-fit, passes-as-none, by-hand-used)

  pub open-by-hand : (t : ℕ) (w positions openings : List ℕ) → «open» k t by_hand w positions openings ≡ «open» k t [] w positions openings
  unfolding calls.«open»
  open-by-hand t w positions openings = rw (by-hand-fit, passes-as-none, by-hand-used)

  module _ (m n : ℕ) (a b c : List ℕ) where
    pub cast-by-hand : (r x w item : List ℕ) → cast m n k by_hand a b c r x w item ≡ cast m n k [] a b c r x w item
    unfolding calls.cast
    cast-by-hand r x w item = rw (by-hand-fit, passes-as-none, by-hand-used)

    pub quotient-by-hand : (l : ℕ) (items wits out : List ℕ) → quotient m n k l by_hand a b c items wits out ≡ quotient m n k l [] a b c items wits out
    unfolding calls.quotient
    quotient-by-hand l items wits out = rw (by-hand-fit, passes-as-none, by-hand-used)

    pub fold-by-hand : (l challenge : ℕ) (items wits q item wit : List ℕ) → fold m n k l challenge by_hand a b c items wits q item wit ≡ fold m n k l challenge [] a b c items wits q item wit
    unfolding calls.fold
    fold-by-hand l challenge items wits q item wit = rw (by-hand-fit, passes-as-none, by-hand-used)

    pub decide-by-hand : (item wit : List ℕ) → decide m n k by_hand a b c item wit ≡ decide m n k [] a b c item wit
    unfolding calls.decide
    decide-by-hand item wit = rw (by-hand-fit, passes-as-none, by-hand-used)
