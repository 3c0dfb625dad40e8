-- `put` meets its contract. The invariant: the first j words are in place.
-- Assumes nothing.
use mathlib.Core.Path.{◌≡◌}
use Rattle.lanes.specs.Lanes.{set_lane}
use Rattle.lanes.proofs.put.Given as goal

abbrev pub invariant-loop-j : goal.invariant-loop-j
invariant-loop-j l = l.s ≡ set_lane 4 l.i l.v l.j l.initial.s
