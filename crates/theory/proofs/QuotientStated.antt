-- The quotient theorem: for a field with 57 different nodes, and so for the field of p elements (`quotient-theorem`).
use Prim.Native.Nat.{ℕ, ◌+◌, ◌-◌, ◌≤◌}
use native.Mathlib.Nat.{mul-le-mul}
use native.Mathlib.Omega.{arith}
use lib.ListN.{length}
use Rattle.algebra.specs.Ring.{Field}
use Rattle.algebra.specs.Lists.{Differ}
use Rattle.field.specs.BabyBear.{baby_bear}
use Rattle.theory.specs.Combination.{node, quotient_size}
use Rattle.theory.specs.Statements.{QuotientStatement}
use Rattle.theory.proofs.FpLaws.{fp-laws}
use Rattle.theory.proofs.QuotientTheorem.{quotient-holds, quotient_is, quotient-written}

-- Eight items and m up to 6 need 57 of them: 8 nodes and 49 numbers behind them.
pub nodes-enough : (l m : ℕ) → l ≤ 8 → m ≤ 6 → l + quotient_size m l ≤ 57
nodes-enough l m hl hm = omega (arith, mul-le-mul few small)
  where
    few : l - 1 ≤ 7
    few = omega arith

    small : m + 1 ≤ 7
    small = omega arith

pub quotient-for : (F : Field) → Differ 57 (node F) → QuotientStatement F
quotient-for F different M m n k items witnesses hm hl shaped = record {
  exists-if = quotient-written F M m n k items witnesses apart shaped;
  only_if = quotient-holds F M m n k items witnesses (λ i j h p. apart i j h (omega arith)) shaped;
  one_only = quotient_is F M m n k items witnesses apart;
}
  where
    apart : Differ (length items + quotient_size m (length items)) (node F)
    apart i j h p = different i j h (omega (arith, nodes-enough (length items) m hl hm))

pub quotient-theorem : QuotientStatement baby_bear
quotient-theorem = quotient-for baby_bear fp-laws.nodes-differ
