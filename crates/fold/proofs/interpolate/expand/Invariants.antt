-- `interpolate::expand` meets its contract. The invariant: with the step at index j, the list is the result.
use mathlib.Core.Path.{◌≡◌}
use Rattle.field.specs.Numbers.{Below}
use Rattle.fold.specs.Newton.{expand_from}
use Rattle.fold.proofs.Newton.{expand_left}
use Rattle.fold.proofs.interpolate.expand.Given as goal

abbrev pub invariant-loop-j : goal.invariant-loop-j
invariant-loop-j l = Below l.values × (expand_left l.a l.j l.values ≡ expand_from l.i l.a l.initial.values)
