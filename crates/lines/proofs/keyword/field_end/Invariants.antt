-- `keyword::field_end` meets its contract. The invariant: the field ends where the one that starts at i ends.
use mathlib.Core.Path.{◌≡◌}
use Rattle.lines.specs.Cursor.{field_end}
use Rattle.lines.proofs.keyword.field_end.Given as goal

abbrev pub invariant-loop-i : goal.invariant-loop-i
invariant-loop-i l = field_end l.s l.at ≡ field_end l.s l.i
