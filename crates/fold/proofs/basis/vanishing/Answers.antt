use mathlib.Core.Path.{ap, ◌∙◌}
use native.Mathlib.Omega.{arith}
use Rattle.field.specs.BabyBear.{baby_bear, val, ofℕ, ◌⊖◌}
use Rattle.theory.specs.Combination.{node}
use Rattle.fold.proofs.Factors.{vanishing-factor, vanishing-product}
use Rattle.fold.proofs.Running.{product-none, product-more, product-all}
use Rattle.fold.proofs.basis.vanishing.Goals as goal

pub loop-j-init : goal.loop-j-init
loop-j-init c = product-none (λ j. ofℕ c.args.a ⊖ node baby_bear j)

pub loop-j-preserved : goal.loop-j-preserved
loop-j-preserved c = product-more (λ j. ofℕ c.args.a ⊖ node baby_bear j) c.loop-j.j c.loop-j.product c.sub.result c.mul-product.result c.loop-j.invariant (vanishing-factor c.args.a c.loop-j.j c.sub.result c.sub.ensures) c.mul-product.ensures

pub returns : goal.returns
returns c = product-all (λ j. ofℕ c.args.a ⊖ node baby_bear j) c.loop-j.j c.args.l (omega arith) c.loop-j.invariant ∙ ap val (vanishing-product c.args.l (ofℕ c.args.a))
