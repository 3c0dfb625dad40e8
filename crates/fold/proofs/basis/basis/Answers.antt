use Rattle.fold.proofs.Factors.{factor_of}
use Rattle.fold.proofs.Running.{product-none, product-more}
use Rattle.fold.proofs.basis.basis.Goals as goal

pub loop-j-init : goal.loop-j-init
loop-j-init c = product-none (factor_of c.args.i c.args.a)

pub loop-j-preserved : goal.loop-j-preserved
loop-j-preserved c = product-more (factor_of c.args.i c.args.a) c.loop-j.j c.loop-j.product c.factor.result c.mul-product.result c.loop-j.invariant c.factor.ensures c.mul-product.ensures
