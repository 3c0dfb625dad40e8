use native.Mathlib.Omega.{arith}
use Rattle.field.specs.BabyBear.{baby_bear, val, ofℕ}
use Rattle.theory.specs.Combination.{L}
use Rattle.fold.specs.Weights.{lagrange_at}
use Rattle.fold.proofs.Elements.{filled-front}
use Rattle.fold.proofs.basis.Weights.new.Goals as goal

pub invariant_of-result-clause-of_each : goal.invariant_of-result-clause-of_each
unfolding lagrange_at
invariant_of-result-clause-of_each c = filled-front (λ i. val (L baby_bear c.args.l i (ofℕ c.args.at))) c.loop-i.i c.args.l c.loop-i.values (omega arith) (omega arith) c.loop-i.invariant.1
