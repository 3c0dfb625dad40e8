-- `start` meets its contract. The invariant: the initial value is in place in each lane before i.
-- Assumes nothing.
use mathlib.Core.Path.{◌≡◌}
use lib.ListN.{length}
use Rattle.lanes.proofs.Lanes.{Each}
use Rattle.lanes.proofs.start.Given as goal

abbrev pub invariant-loop-i : goal.invariant-loop-i
invariant-loop-i l = (length l.s ≡ 32) × Each 4 8 (λ q. l.h) l.i l.initial.s l.s
