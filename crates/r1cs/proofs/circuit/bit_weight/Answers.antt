-- `circuit::bit_weight` meets its contract.
-- Assumes nothing.
use Rattle.r1cs.proofs.WeightLaws.{bit-zero, bit-one}
use Rattle.r1cs.proofs.circuit.bit_weight.Goals as goal

pub returns-then-bit-eq0 : goal.returns-then-bit-eq0
returns-then-bit-eq0 c = bit-zero c.args.r c.if-bit-eq0.true c.sub.ensures

pub returns-else-bit-eq0 : goal.returns-else-bit-eq0
returns-else-bit-eq0 c = bit-one c.args.bit c.if-bit-eq0.false c.requires
