-- `root::root_at` meets its contract. The invariant: i pairs of digits were read, and those behind them decide.
use mathlib.Core.Path.{◌≡◌}
use lib.ListN.{length}
use Rattle.lines.proofs.HexLaws.{Read}
use Rattle.lines.proofs.root.root_at.Given as goal

abbrev pub invariant-loop-i : goal.invariant-loop-i
invariant-loop-i l = (length l.bytes ≡ 32) × Read l.s l.at l.bytes l.i
