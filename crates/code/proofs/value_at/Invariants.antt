-- `code::value_at` meets its contract. The invariant: acc is the value of the numbers taken so far, from the highest down.
-- Assumes nothing.
use Prim.Native.Nat.{◌-◌}
use lib.ListN.{length}
use Rattle.code.proofs.Loops.{Upper}
use Rattle.code.proofs.value_at.Given as goal

abbrev pub invariant-loop-number : goal.invariant-loop-number
invariant-loop-number l = Upper l.w l.x (length l.w - length l.yielded) l.acc
