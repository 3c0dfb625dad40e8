use mathlib.Core.Path.{ap, ◌∙◌}
use native.Mathlib.Omega.{arith}
use lib.ListN.{length}
use Rattle.field.specs.BabyBear.{val}
use Rattle.field.proofs.Laws.{below-p}
use Rattle.fold.proofs.Terms.{term, term_is, weighted-sum}
use Rattle.fold.proofs.Running.{sum-none, sum_more, sum-all}
use Rattle.fold.proofs.combine.weighted.Goals as goal

pub loop-i-init : goal.loop-i-init
loop-i-init c = sum-none (term c.args.weights.now c.args.buffer.now c.args.stride c.args.at)

pub add-sum-requires : goal.add-sum-requires
add-sum-requires c = (below-p _ c.loop-i.invariant, below-p _ c.mul-term.ensures)

pub loop-i-preserved : goal.loop-i-preserved
loop-i-preserved c =
    sum_more (term c.args.weights.now c.args.buffer.now c.args.stride c.args.at) c.loop-i.i c.loop-i.sum c.mul-term.result c.add-sum.result c.loop-i.invariant
    (term_is c.args.weights.now c.args.buffer.now c.args.stride c.args.at c.loop-i.i c.get.result c.mul-term.result c.get.ensures c.mul-term.ensures) c.add-sum.ensures

pub returns : goal.returns
returns c = sum-all (term c.args.weights.now c.args.buffer.now c.args.stride c.args.at) c.loop-i.i (length c.args.weights.now) (omega arith) c.loop-i.invariant ∙ ap val (weighted-sum c.args.weights.now c.args.buffer.now c.args.stride c.args.at)
