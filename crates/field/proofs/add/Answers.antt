-- `field::add` meets its contract.
-- Assumes nothing.
use mathlib.Core.Path.{ap, ◌∙◌}
use Rattle.field.specs.BabyBear.{val}
use Rattle.field.proofs.Laws.{ofℕ-add}
use Rattle.field.proofs.add.Goals as goal

pub returns : goal.returns
returns c = c.reduce.ensures ∙ ap val (ofℕ-add c.args.a c.args.b)
