-- `row::read_numbers` meets its contract. The invariant: the numbers from `place` on, behind n, are those from `at` on, behind `count`,
-- and they leave the same buffer. The measure is what is left of the text.
use mathlib.Core.Path.{◌≡◌}
use Prim.Native.Nat.{◌-◌, ◌≤◌}
use lib.ListN.{length}
use Rattle.lines.proofs.RowLaws.{NumbersLeft}
use Rattle.lines.proofs.row.read_numbers.Given as goal

abbrev pub invariant-loop-number : goal.invariant-loop-number
invariant-loop-number l = (l.place ≤ length l.s) × (l.n ≤ l.place) × (length l.buffer ≡ length l.initial.buffer) × NumbersLeft l.s l.at l.count l.initial.buffer l.place l.n l.buffer

abbrev pub decreases-loop-number : goal.decreases-loop-number
decreases-loop-number l = length l.s - l.place
