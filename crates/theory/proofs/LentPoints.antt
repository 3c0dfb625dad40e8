-- The points that a call uses, the built-in ones or lent ones that pass checks 2 and 12, are 4k different ones.
use mathlib.Core.Path.{◌≡◌, refl, ◌∙◌}
use mathlib.Core.Bool.{Bool, true, false, ◌||◌}
use mathlib.Core.List.{List, [], ◌∷◌, map}
use Prim.Native.Nat.{ℕ, ◌*◌}
use native.Mathlib.Omega.{arith}
use borrow.Author.Tests.{eqb-true}
use lib.ListN.{length, length-map}
use Rattle.algebra.specs.Lists.{Distinct}
use Rattle.algebra.proofs.ListLaws.{distinct-map}
use Rattle.numbers.specs.Numbers.{numbers, all_below, all_different}
use Rattle.numbers.proofs.Bounds.{each_below}
use Rattle.numbers.proofs.Bytes.{length-numbers}
use Rattle.numbers.proofs.Differences.{different}
use Rattle.numbers.proofs.Tests.{and_left, and_right}
use Rattle.field.specs.BabyBear.{p}
use Rattle.code.specs.Points.{is_witness_count}
use Rattle.code.proofs.Sizes.{depth-leaves}
use Rattle.theory.specs.Instance.{Instance, code, points_of}
use Rattle.theory.specs.Sizes.{has_length, points_fit, points_differ}
use Rattle.theory.proofs.Passing.{CodeLaws}
use Rattle.theory.proofs.InstanceLaws.{InstanceLaws}

-- A buffer of points that passes check 2 and is not empty has 4k numbers.
pub lent-size : (k : ℕ) (points : List ℕ) → points_fit k points ≡ true → (length points ≡ 0 → ⊥) → length points ≡ 4 * (4 * k)
lent-size k points fits some = go (has_length points 0) refl fits
  where
    go : (t : Bool) → has_length points 0 ≡ t → (t || has_length points (4 * (4 * k))) ≡ true → length points ≡ 4 * (4 * k)
    go true e h = absurd (some (eqb-true (length points) 0 e))
    go false e h = eqb-true (length points) (4 * (4 * k)) h

-- An empty buffer passes check 12.
pub none_differ : (points : List ℕ) → length points ≡ 0 → true ≡ points_differ points
unfolding numbers all_below all_different
none_differ [] e = refl
none_differ (byte ∷ points) e = absurd (omega arith)

-- The points that are used: none are lent, or some.
module _ (I : Instance) (k : ℕ) where
  pub points-built-in : (points : List ℕ) → length points ≡ 0 → points_of I k points ≡ I.built_in_points k
  points-built-in [] e = refl
  points-built-in (byte ∷ points) e = absurd (omega arith)

  pub points-lent : (points : List ℕ) → (length points ≡ 0 → ⊥) → points_of I k points ≡ map I.format.of_number (numbers points)
  points-lent [] some = absurd (some refl)
  points-lent (byte ∷ points) some = refl

module _ (I : Instance) (laws : InstanceLaws I) (k : ℕ) where
  pub points-count : (points : List ℕ) → points_fit k points ≡ true → length (points_of I k points) ≡ 4 * k
  points-count [] fits = laws.built-in-count k
  points-count (byte ∷ points) fits =
      length-map (numbers (byte ∷ points)) I.format.of_number ∙ length-numbers (4 * k) (byte ∷ points) (lent-size k (byte ∷ points) fits (λ e. omega arith))

  points-different : is_witness_count k ≡ true → (points : List ℕ) → points_differ points ≡ true → Distinct (points_of I k points)
  points-different counted [] differ = laws.built-in-different k counted
  points-different counted (byte ∷ points) differ =
      let lent : List ℕ = numbers (byte ∷ points) in
      distinct-map I.format.of_number laws.format-laws.number-different lent
      (each_below p lent (and_left (all_below p lent) (all_different lent) differ))
      (different lent (and_right (all_below p lent) (all_different lent) differ))

  pub code_laws : is_witness_count k ≡ true → (points : List ℕ) → points_fit k points ≡ true → points_differ points ≡ true → CodeLaws I.field.ring.carrier (code I k points)
  code_laws counted points fits differ = record { size = depth-leaves k counted; count = points-count points fits; different = points-different counted points differ }
