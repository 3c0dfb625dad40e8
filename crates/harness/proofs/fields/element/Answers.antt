-- The remainder is the number of the element.
use mathlib.Core.Path.{sym}
use Rattle.field.proofs.Laws.{val-ofℕ}
use Rattle.harness.proofs.fields.element.Goals as goal

pub returns : goal.returns
returns c = sym (val-ofℕ c.args.n)
