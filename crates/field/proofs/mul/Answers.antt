-- `field::mul` meets its contract.
-- Assumes nothing.
use mathlib.Core.Path.{sym}
use Rattle.field.proofs.Laws.{val-mul}
use Rattle.field.proofs.mul.Goals as goal

pub returns : goal.returns
returns c = sym (val-mul c.args.a c.args.b)
