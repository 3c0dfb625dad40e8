use mathlib.Core.Path.{ap, ◌∙◌}
use Rattle.field.specs.BabyBear.{val, ofℕ}
use Rattle.harness.proofs.Elements.{product-none, product-next}
use Rattle.harness.proofs.fields.lomvuze_test_chain_mul.Goals as goal

pub loop-i-init : goal.loop-i-init
loop-i-init c = c.element-acc.ensures ∙ ap val (product-none (ofℕ c.args.x) (ofℕ c.args.y))

pub loop-i-preserved : goal.loop-i-preserved
loop-i-preserved c = product-next (ofℕ c.args.x) (ofℕ c.args.y) c.loop-i._i c.loop-i.invariant c.mul-acc.ensures
