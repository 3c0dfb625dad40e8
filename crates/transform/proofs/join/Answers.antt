use mathlib.Core.Path.{◌∙◌}
use native.Mathlib.Omega.{arith}
use Rattle.field.proofs.Laws.{below-p}
use Rattle.transform.proofs.Joining.{turned_none, turned-all}
use Rattle.transform.proofs.Butterfly.{even-below, turn, turned-joint}
use Rattle.transform.proofs.join.Goals as goal

pub loop-i-init : goal.loop-i-init
loop-i-init c = turned_none _ _ _ _ c.requires.0

pub loop-i-preserved : goal.loop-i-preserved
loop-i-preserved c = turn c.args.table.now c.args.step c.args.half c.args.out.now c.requires.0 c.requires.2 c.loop-i.i c.loop-i.out (omega arith) c.loop-i.invariant c.mul-product.ensures c.add.ensures c.sub.ensures

pub returns : goal.returns
returns c = turned-all _ _ _ _ c.loop-i.i c.loop-i.out (omega arith) c.loop-i.invariant ∙ turned-joint c.args.table.now c.args.step c.args.half c.args.out.now

pub sub-requires : goal.sub-requires
sub-requires c = (even-below c.args.table.now c.args.step c.args.half c.args.out.now c.requires.0 c.requires.2 c.loop-i.i c.loop-i.out (omega arith) c.loop-i.invariant, below-p _ c.mul-product.ensures)

pub add-requires : goal.add-requires
add-requires c = (even-below c.args.table.now c.args.step c.args.half c.args.out.now c.requires.0 c.requires.2 c.loop-i.i c.loop-i.out (omega arith) c.loop-i.invariant, below-p _ c.mul-product.ensures)
