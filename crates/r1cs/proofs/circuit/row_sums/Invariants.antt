-- `circuit::row_sums` meets its contract. The invariant: the sums of the rows after the first i entries.
-- Assumes nothing.
use Rattle.r1cs.proofs.RowLaws.{Summed}
use Rattle.r1cs.proofs.circuit.row_sums.Given as goal

abbrev pub invariant-loop-i : goal.invariant-loop-i
invariant-loop-i l = Summed l.entries l.z l.i l.sums
