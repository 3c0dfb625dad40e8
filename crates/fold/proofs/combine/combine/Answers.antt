use Prim.Native.Nat.{◌+◌}
use native.Mathlib.Omega.{arith}
use lib.ListN.{length}
use Rattle.field.specs.BabyBear.{val}
use Rattle.fold.specs.Weights.{weighted, weighted_from}
use Rattle.algebra.proofs.Filling.{filled-all}
use Rattle.fold.proofs.combine.combine.Goals as goal

pub returns : goal.returns
unfolding weighted_from
returns c = filled-all (λ b. val (weighted c.args.weights.now c.args.buffer.now c.args.stride (c.args.at + b))) c.loop-b.b (length c.args.out.now) c.loop-b.out (omega arith) c.loop-b.auto.out c.loop-b.invariant
