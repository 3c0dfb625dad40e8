-- `number::number_at` meets its contract. The invariant: the bytes from `at` up to `end` are digits, at most ten, and write `value`.
use Prim.Native.Nat.{◌≤◌, ◌-◌}
use Rattle.lines.proofs.NumberLaws.{Digits}
use Rattle.lines.proofs.number.number_at.Given as goal

abbrev pub invariant-loop-end : goal.invariant-loop-end
invariant-loop-end l = (l.end ≤ l.last) × Digits l.s l.at l.value l.end

abbrev pub decreases-loop-end : goal.decreases-loop-end
decreases-loop-end l = l.last - l.end
