-- `interpolate::slopes` meets its contract. The invariant: with the slopes from index j on, the list is the result.
use mathlib.Core.Path.{◌≡◌}
use Rattle.field.specs.Numbers.{Below}
use Rattle.fold.specs.Newton.{slopes_from}
use Rattle.fold.proofs.Newton.{slopes_left}
use Rattle.fold.proofs.interpolate.slopes.Given as goal

abbrev pub invariant-loop-j : goal.invariant-loop-j
invariant-loop-j l = Below l.values × (slopes_left l.i l.v l.j l.values ≡ slopes_from l.i l.initial.values)
