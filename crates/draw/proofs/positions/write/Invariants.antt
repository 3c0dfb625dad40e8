-- `positions::write` meets its contract. The invariant: the first j numbers are written, and what lies behind them is as it was.
use Rattle.algebra.specs.Lists.{build}
use Rattle.numbers.proofs.Filling.{Filling}
use Rattle.draw.specs.Draw.{position_of}
use Rattle.draw.proofs.positions.write.Given as goal

abbrev pub invariant-loop-j : goal.invariant-loop-j
invariant-loop-j l = Filling (build l.t (position_of l.k l.seed l.challenge l.root)) l.initial.positions l.j l.positions
