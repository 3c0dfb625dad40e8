-- `Circuit::value` meets its contract. The invariant: the sum over the first j rows.
-- Assumes nothing.
use Rattle.r1cs.proofs.ValueLaws.{Valued}
use Rattle.r1cs.proofs.circuit.Circuit.value.Given as goal

abbrev pub invariant-loop-j : goal.invariant-loop-j
invariant-loop-j l = Valued l.self.a.now l.self.b.now l.self.c.now l.r l.z l.j l.sum
