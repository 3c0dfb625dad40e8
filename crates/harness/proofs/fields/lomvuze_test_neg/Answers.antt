-- The operand is the number of its element.
use mathlib.Core.Path.{ap, ◌∙◌}
use Rattle.field.specs.BabyBear.{F, val, ofℕ, ⊝◌}
use Rattle.field.proofs.Laws.{below-p, ofℕ-of}
use Rattle.harness.proofs.fields.lomvuze_test_neg.Goals as goal

pub neg-requires : goal.neg-requires
neg-requires c = below-p (ofℕ c.args.a) c.element.ensures

pub returns : goal.returns
returns c =
    c.neg.ensures
    ∙ ap (λ (x : F). val (⊝ x)) (ofℕ-of (ofℕ c.args.a) c.element.ensures)
