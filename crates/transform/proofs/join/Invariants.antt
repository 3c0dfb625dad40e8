-- `transform::join` meets its contract. The invariant: the state before turn i.
-- Assumes nothing.
use Rattle.transform.proofs.Joining.{Turned}
use Rattle.transform.proofs.Butterfly.{lower_at, upper_at}
use Rattle.transform.proofs.join.Given as goal

abbrev pub invariant-loop-i : goal.invariant-loop-i
invariant-loop-i l = Turned l.half (lower_at l.table l.step l.half l.initial.out) (upper_at l.table l.step l.half l.initial.out) l.initial.out l.i l.out
