use native.Mathlib.Omega.{arith}
use Rattle.r1cs.proofs.WeightLaws.{weighed-none, weighed-more}
use Rattle.r1cs.proofs.circuit.weight.Goals as goal

pub loop-x-init : goal.loop-x-init
loop-x-init c = weighed-none c.args.r.now c.args.j

pub loop-x-preserved : goal.loop-x-preserved
loop-x-preserved c = weighed-more c.loop-x.invariant (omega arith) c.bit_weight.ensures c.mul-product.ensures
