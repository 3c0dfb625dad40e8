-- `numbers::load` meets its contract. The invariant: the first i numbers stand in their places.
use mathlib.Core.Path.{◌≡◌}
use lib.ListN.{take}
use Rattle.numbers.specs.Numbers.{numbers}
use Rattle.numbers.proofs.load.Given as goal

abbrev pub invariant-loop-i : goal.invariant-loop-i
invariant-loop-i l = take l.i l.out ≡ take l.i (numbers l.b)
