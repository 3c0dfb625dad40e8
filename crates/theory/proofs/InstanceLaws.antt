-- What the statements ask of an instance: laws of its format, its hash and its points, and 57 different nodes.
use mathlib.Core.Path.{◌≡◌}
use mathlib.Core.Bool.{true}
use mathlib.Core.List.{List, ◌++◌}
use Prim.Native.Nat.{ℕ, ◌*◌, ◌<◌}
use lib.ListN.{length, get_or}
use Rattle.algebra.specs.Lists.{Distinct, Differ}
use Rattle.field.specs.BabyBear.{p}
use Rattle.code.specs.Points.{is_witness_count}
use Rattle.theory.specs.Combination.{node}
use Rattle.theory.specs.Instance.{Format, Instance}
use Rattle.theory.specs.Sizes.{elements_below}
use Rattle.theory.proofs.Passing.{HashLaws}

-- Elements that are written are read back, and their numbers are below p, also with bytes behind them.
pub record FormatLaws (K : Type 0) (zero : K) (E : Format K) : Type 0 where
  -- An element is so many numbers.
  pub width : ℕ
  pub size_of : (n : ℕ) → E.size n ≡ 4 * (width * n)
  pub length-bytes_of : (es : List K) → length (E.bytes_of es) ≡ E.size (length es)
  pub element-read : (es : List K) (rest : List ℕ) (j : ℕ) → j < length es → E.at (E.bytes_of es ++ rest) j ≡ get_or es j zero
  pub element-below : (es : List K) (rest : List ℕ) (j : ℕ) → j < length es → E.below (E.bytes_of es ++ rest) j ≡ true
  pub numbers-below : (es : List K) → elements_below (E.bytes_of es) ≡ true
  -- Different numbers below p have different elements.
  pub number-different : (a b : ℕ) → a < p → b < p → E.of_number a ≡ E.of_number b → a ≡ b

-- Eight items and m up to 6 need 57 nodes: 8 for the items, and 49 numbers behind them to interpolate the quotient at.
pub record InstanceLaws (I : Instance) : Type 0 where
  pub format-laws : FormatLaws I.field.ring.carrier I.field.ring.zero I.format
  pub hash-laws : HashLaws I.field.ring.carrier I.hash
  pub built-in-count : (k : ℕ) → length (I.built_in_points k) ≡ 4 * k
  pub built-in-different : (k : ℕ) → is_witness_count k ≡ true → Distinct (I.built_in_points k)
  pub nodes-differ : Differ 57 (node I.field)
