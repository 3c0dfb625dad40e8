-- `ends::field_over` meets its contract: the field that starts at i is empty exactly if it has no first byte.
use mathlib.Core.Path.{sym}
use native.Mathlib.Omega.{arith}
use Rattle.lines.proofs.FieldLaws.{field-over, none_here}
use Rattle.lines.proofs.ends.field_over.Goals as goal

pub returns-then-i-s : goal.returns-then-i-s
returns-then-i-s c = sym (rw (field-over c.args.s.now c.args.i (omega arith)))

pub returns : goal.returns
returns c = none_here _ c.args.i (omega arith)
