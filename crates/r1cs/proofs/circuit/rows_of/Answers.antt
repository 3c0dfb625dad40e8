-- `circuit::rows_of` meets its contract.
-- Assumes nothing.
use native.Mathlib.Omega.{arith}
use Rattle.r1cs.proofs.ValueLaws.{rows_few, rows-shifted}
use Rattle.r1cs.proofs.circuit.rows_of.Goals as goal

pub returns : goal.returns
returns c =
    let shifted = rows-shifted c.args.m c.requires in
    (shifted, omega (arith, shifted, rows_few c.args.m c.requires))
