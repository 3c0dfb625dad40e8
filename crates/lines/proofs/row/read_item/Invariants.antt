-- `row::read_item` meets its contract. The invariant: what is left of the item from `place` on, behind n, is the item from `at` on, behind `count`,
-- and it leaves the same buffer. The measure is what is left of the text.
use mathlib.Core.Path.{◌≡◌}
use Prim.Native.Nat.{◌-◌, ◌≤◌}
use lib.ListN.{length}
use Rattle.lines.proofs.RowLaws.{ItemLeft}
use Rattle.lines.proofs.row.read_item.Given as goal

abbrev pub invariant-loop-number : goal.invariant-loop-number
invariant-loop-number l = (l.place ≤ length l.s) × (l.n ≤ l.place) × (l.count ≤ l.n) × (length l.buffer ≡ length l.initial.buffer) × ItemLeft l.s l.at l.count l.initial.buffer l.place l.n l.buffer

abbrev pub decreases-loop-number : goal.decreases-loop-number
decreases-loop-number l = length l.s - l.place
