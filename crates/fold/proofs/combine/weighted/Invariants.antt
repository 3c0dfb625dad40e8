-- `combine::weighted` meets its contract. The invariant: the sum of the first i terms.
use mathlib.Core.Path.{◌≡◌}
use Rattle.algebra.specs.Sums.{sum_to}
use Rattle.field.specs.BabyBear.{R, val}
use Rattle.fold.proofs.Terms.{term}
use Rattle.fold.proofs.combine.weighted.Given as goal

abbrev pub invariant-loop-i : goal.invariant-loop-i
invariant-loop-i l = l.sum ≡ val (sum_to R l.i (term l.weights l.buffer l.stride l.at))
