-- `field::neg` meets its contract: p - a is the opposite of a.
-- Assumes nothing.
use mathlib.Core.Path.{ap, ◌∙◌}
use native.Mathlib.Omega.{arith}
use Rattle.field.specs.BabyBear.{val}
use Rattle.field.proofs.Laws.{ofℕ-neg}
use Rattle.field.proofs.neg.Goals as goal

pub returns : goal.returns
returns c = c.reduce.ensures ∙ ap val (ofℕ-neg c.args.a (omega arith))
