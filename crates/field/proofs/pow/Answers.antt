use mathlib.Core.Path.{◌∙◌}
use native.Mathlib.Omega.{arith}
use Rattle.field.proofs.Powers.{left-start, left-odd, left-even, left-done}
use Rattle.field.proofs.pow.Goals as goal
use Rattle.field.proofs.pow.Goals.{then-left-eq1, else-left-eq1}

pub loop-left-init : goal.loop-left-init
loop-left-init c = left-start c.args.a c.args.e

pub loop-left-preserved : goal.loop-left-preserved
loop-left-preserved c =
    elim c.if-left-eq1.branch [
      | then-left-eq1 w ↦ left-odd c.mul-base.ensures c.loop-left.invariant w.if-left-eq1.true (w.acc-is ∙ w.mul-acc.ensures)
      | else-left-eq1 w ↦ left-even c.mul-base.ensures c.loop-left.invariant (omega (arith, w.if-left-eq1.false)) w.acc-is
    ]

pub returns : goal.returns
returns c = left-done (omega arith) c.loop-left.invariant
