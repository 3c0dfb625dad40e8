-- `r::write` meets its contract. The invariant: the first j numbers are written, and what lies behind them is as it was.
use Rattle.algebra.specs.Lists.{build}
use Rattle.numbers.proofs.Filling.{Filling}
use Rattle.draw.specs.Draw.{r_of}
use Rattle.draw.proofs.r.write.Given as goal

abbrev pub invariant-loop-j : goal.invariant-loop-j
invariant-loop-j l = Filling (build l.m (r_of l.root l.x)) l.initial.r l.j l.r
