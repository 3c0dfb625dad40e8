use mathlib.Core.Path.{sym, ◌∙◌}
use native.Mathlib.Omega.{arith}
use lib.ListN.{get_or}
use Rattle.field.proofs.Laws.{below-p}
use Rattle.fold.proofs.Elements.{below_set}
use Rattle.fold.proofs.Newton.{slopes-more, slopes-all, slopes_from-left}
use Rattle.fold.proofs.interpolate.slopes.Goals as goal

pub loop-j-init : goal.loop-j-init
loop-j-init c = (c.requires.2, slopes_from-left c.args.i c.args.values.now)

pub loop-j-preserved : goal.loop-j-preserved
loop-j-preserved c = (
  below_set c.loop-j.values c.loop-j.j c.mul.result (below-p _ c.mul.ensures) c.loop-j.invariant.0,
  slopes-more c.args.i (get_or c.args.values.now c.args.i 0) c.loop-j.j c.loop-j.values (omega arith) (omega arith) c.sub.ensures c.of.ensures c.mul.ensures ∙ c.loop-j.invariant.1,
)

pub returns : goal.returns
returns c = sym (slopes-all c.args.i (get_or c.args.values.now c.args.i 0) c.loop-j.j c.loop-j.values (omega arith)) ∙ c.loop-j.invariant.1
