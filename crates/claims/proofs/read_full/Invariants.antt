-- `read_full` is safe and ends: what it has read lies in the buffer, and each turn reads a byte at least.
use Rattle.std.proofs.Common.{◌-◌, ◌≤◌}
use Rattle.claims.proofs.read_full.Given as goal

abbrev pub invariant-loop-done : goal.invariant-loop-done
invariant-loop-done g l = l.done ≤ 65536

abbrev pub decreases-loop-done : goal.decreases-loop-done
decreases-loop-done g l = 65536 - l.done
