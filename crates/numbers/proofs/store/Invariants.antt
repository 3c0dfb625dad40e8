-- `numbers::store` meets its contract. The invariant: the first i numbers are written, and what lies behind them is as it was.
use Rattle.numbers.proofs.Filling.{Filling}
use Rattle.numbers.proofs.store.Given as goal

abbrev pub invariant-loop-i : goal.invariant-loop-i
invariant-loop-i l = Filling l.xs l.initial.b l.i l.b
