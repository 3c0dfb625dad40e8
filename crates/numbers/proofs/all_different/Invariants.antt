-- `numbers::all_different` meets its contract. The invariant: the test of all numbers is the test of those from i on.
use Rattle.numbers.proofs.Differences.{RestDiffers}
use Rattle.numbers.proofs.all_different.Given as goal

abbrev pub invariant-loop-i : goal.invariant-loop-i
invariant-loop-i l = RestDiffers l.xs l.i
