use mathlib.Core.Path.{sym, ◌∙◌}
use native.Mathlib.Omega.{arith}
use Rattle.lines.proofs.FieldLaws.{field-stops, field-over, end_more, end-here}
use Rattle.lines.proofs.keyword.field_end.Goals as goal

pub returns-then-d : goal.returns-then-d
returns-then-d c = sym (c.loop-i.invariant ∙ end-here c.args.s.now c.loop-i.i (field-stops c.args.s.now c.loop-i.i (omega arith) c.if-d.true))

pub loop-i-preserved : goal.loop-i-preserved
loop-i-preserved c = c.loop-i.invariant ∙ end_more c.args.s.now c.loop-i.i (omega arith) c.if-d.false

pub returns : goal.returns
returns c = omega (arith, c.loop-i.invariant, end-here c.args.s.now c.loop-i.i (field-over c.args.s.now c.loop-i.i c.loop-i-test.false))
