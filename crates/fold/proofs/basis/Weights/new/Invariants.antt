-- `Weights::new` meets its contract. The invariant: the first i values are L_0 to L_(i - 1).
use mathlib.Core.Path.{◌≡◌}
use lib.ListN.{length}
use Rattle.field.specs.BabyBear.{baby_bear, val, ofℕ}
use Rattle.theory.specs.Combination.{L}
use Rattle.algebra.proofs.Filling.{Filled}
use Rattle.fold.proofs.basis.Weights.new.Given as goal

abbrev pub invariant-loop-i : goal.invariant-loop-i
invariant-loop-i l = (length l.values ≡ 8) × Filled (λ i1. val (L baby_bear l.l i1 (ofℕ l.at))) l.i l.values
