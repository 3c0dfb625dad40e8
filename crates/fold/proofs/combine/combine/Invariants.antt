-- `combine::combine` meets its contract. The invariant: the first b entries are the sums for the first b numbers.
use Prim.Native.Nat.{◌+◌}
use Rattle.field.specs.BabyBear.{val}
use Rattle.fold.specs.Weights.{weighted}
use Rattle.algebra.proofs.Filling.{Filled}
use Rattle.fold.proofs.combine.combine.Given as goal

abbrev pub invariant-loop-b : goal.invariant-loop-b
invariant-loop-b l = Filled (λ b1. val (weighted l.weights l.buffer l.stride (l.at + b1))) l.b l.out
