-- `numbers::is_among` meets its contract. The invariant: x was found, or is among the numbers not yet compared, exactly where it is among all.
use Rattle.numbers.proofs.Differences.{Searched}
use Rattle.numbers.proofs.is_among.Given as goal

abbrev pub invariant-loop-y : goal.invariant-loop-y
invariant-loop-y l = Searched l.x l.xs l.found l.y-index
