use mathlib.Core.Path.{refl}
use native.Mathlib.Omega.{arith}
use Rattle.numbers.proofs.Filling.{filling-none, filling-more}
use Rattle.numbers.proofs.store.Goals as goal

pub loop-i-init : goal.loop-i-init
loop-i-init c = filling-none c.args.xs.now c.args.b.now

pub loop-i-preserved : goal.loop-i-preserved
loop-i-preserved c = filling-more c.args.xs.now c.args.b.now c.loop-i.i c.loop-i.b c.loop-i.invariant _ c.put.new.b (omega arith) refl c.put.ensures
