-- `quotient::quotient` meets its contract. The invariant: the first i values are written.
use Rattle.algebra.proofs.Filling.{Filled}
use Rattle.fold.proofs.Quotients.{value}
use Rattle.fold.proofs.quotient.quotient.Given as goal

abbrev pub invariant-loop-i : goal.invariant-loop-i
invariant-loop-i l = Filled (value l.list) l.i l.out
