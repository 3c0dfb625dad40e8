-- The operands are the numbers of their elements.
use Rattle.field.specs.BabyBear.{ofℕ}
use Rattle.field.proofs.Laws.{below-p}
use Rattle.harness.proofs.Elements.{sum_of}
use Rattle.harness.proofs.fields.lomvuze_test_add.Goals as goal

pub add-requires : goal.add-requires
add-requires c = (below-p (ofℕ c.args.a) c.element.ensures, below-p (ofℕ c.args.b) c.element-2.ensures)

pub returns : goal.returns
returns c = sum_of (ofℕ c.args.a) (ofℕ c.args.b) c.element.ensures c.element-2.ensures c.add.ensures
