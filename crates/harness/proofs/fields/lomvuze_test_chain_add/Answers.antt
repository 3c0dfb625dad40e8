use mathlib.Core.Path.{ap, ◌∙◌}
use Rattle.field.specs.BabyBear.{val, ofℕ, ◌⊕◌, ◌⊗◌}
use Rattle.field.proofs.Laws.{below-p}
use Rattle.harness.proofs.Elements.{sum-none, sum-next}
use Rattle.harness.proofs.fields.lomvuze_test_chain_add.Goals as goal

pub loop-i-init : goal.loop-i-init
loop-i-init c = c.element-acc.ensures ∙ ap val (sum-none (ofℕ c.args.x) (ofℕ c.args.y))

pub add-acc-requires : goal.add-acc-requires
add-acc-requires c = (
  below-p (ofℕ c.args.x ⊕ ofℕ c.loop-i._i ⊗ ofℕ c.args.y) c.loop-i.invariant,
  below-p (ofℕ c.args.y) c.element-step.ensures,
)

pub loop-i-preserved : goal.loop-i-preserved
loop-i-preserved c = sum-next (ofℕ c.args.x) (ofℕ c.args.y) c.loop-i._i c.loop-i.invariant c.element-step.ensures c.add-acc.ensures
