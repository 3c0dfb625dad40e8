-- `interpolate::interpolate` meets its contract. The invariant of the first loop: with the differences from index i on, the
-- list is that of the differences; of the second: from index i on it is their expansion.
use mathlib.Core.Path.{◌≡◌}
use Rattle.field.specs.Numbers.{Below}
use Rattle.fold.proofs.Interpolation.{differences_left, Expanded}
use Rattle.fold.proofs.interpolate.interpolate.Given as goal

abbrev pub invariant-loop-i : goal.invariant-loop-i
invariant-loop-i l = Below l.values × (differences_left l.first l.i l.values ≡ differences_left l.first 0 l.initial.values)

abbrev pub invariant-loop-i-2 : goal.invariant-loop-i-2
invariant-loop-i-2 l = Below l.values × Expanded l.first l.initial.values l.i l.values
