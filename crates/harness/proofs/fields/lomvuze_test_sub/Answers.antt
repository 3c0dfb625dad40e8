-- The operands are the numbers of their elements.
use Rattle.field.specs.BabyBear.{ofℕ}
use Rattle.field.proofs.Laws.{below-p}
use Rattle.harness.proofs.Elements.{difference-of}
use Rattle.harness.proofs.fields.lomvuze_test_sub.Goals as goal

pub sub-requires : goal.sub-requires
sub-requires c = (below-p (ofℕ c.args.a) c.element.ensures, below-p (ofℕ c.args.b) c.element-2.ensures)

pub returns : goal.returns
returns c = difference-of (ofℕ c.args.a) (ofℕ c.args.b) c.element.ensures c.element-2.ensures c.sub.ensures
