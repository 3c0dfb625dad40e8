-- `circuit::weight` meets its contract. The invariant: the product over the bits so far, and rest is what is left of j.
-- Assumes nothing.
use Rattle.r1cs.proofs.WeightLaws.{Weighed}
use Rattle.r1cs.proofs.circuit.weight.Given as goal

abbrev pub invariant-loop-x : goal.invariant-loop-x
invariant-loop-x l = Weighed l.r l.j l.x-index l.rest l.product
