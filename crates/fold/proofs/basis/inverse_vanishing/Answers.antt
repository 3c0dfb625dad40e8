use mathlib.Core.Path.{ap, ◌∙◌}
use Prim.Native.Nat.{◌+◌}
use native.Mathlib.Omega.{arith}
use Rattle.field.specs.BabyBear.{baby_bear, val, ofℕ, inv, ◌⊖◌}
use Rattle.theory.specs.Combination.{node}
use Rattle.fold.proofs.Factors.{inverse-factor, inverse-product}
use Rattle.fold.proofs.Running.{product-none, product-more, product-all}
use Rattle.fold.proofs.basis.inverse_vanishing.Goals as goal

pub loop-j-init : goal.loop-j-init
loop-j-init c = product-none (λ j. inv (ofℕ (c.args.l + c.args.i) ⊖ node baby_bear j))

pub loop-j-preserved : goal.loop-j-preserved
loop-j-preserved c =
    let n = c.args.l + c.args.i in
    product-more (λ j. inv (ofℕ n ⊖ node baby_bear j)) c.loop-j.j c.loop-j.product c.of.result c.mul-product.result c.loop-j.invariant (inverse-factor n c.loop-j.j (omega arith) c.of.ensures) c.mul-product.ensures

pub returns : goal.returns
returns c =
    let n = c.args.l + c.args.i in
    product-all (λ j. inv (ofℕ n ⊖ node baby_bear j)) c.loop-j.j c.args.l (omega arith) c.loop-j.invariant ∙ ap val (inverse-product n c.args.l (omega arith) (omega arith))
