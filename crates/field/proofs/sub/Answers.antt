-- `field::sub` meets its contract: p - b is the opposite of b.
-- Assumes nothing.
use mathlib.Core.Path.{ap, ◌∙◌}
use native.Mathlib.Omega.{arith}
use Rattle.field.specs.BabyBear.{val}
use Rattle.field.proofs.Laws.{ofℕ-add-neg}
use Rattle.field.proofs.sub.Goals as goal

pub returns : goal.returns
returns c = c.reduce.ensures ∙ ap val (ofℕ-add-neg c.args.a c.args.b (omega arith))
