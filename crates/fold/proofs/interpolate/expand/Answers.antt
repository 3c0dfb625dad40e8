use mathlib.Core.Path.{sym, ◌∙◌}
use native.Mathlib.Omega.{arith}
use Rattle.field.proofs.Laws.{below-p}
use Rattle.fold.proofs.Elements.{below_set}
use Rattle.fold.proofs.Newton.{expand-more, expand-all, expand_from-left}
use Rattle.fold.proofs.interpolate.expand.Goals as goal

pub loop-j-init : goal.loop-j-init
loop-j-init c = (c.requires.1, expand_from-left c.args.i c.args.a c.args.values.now)

pub sub-requires : goal.sub-requires
sub-requires c = (c.loop-j.invariant.0 c.loop-j.j (omega arith), below-p _ c.mul.ensures)

pub loop-j-preserved : goal.loop-j-preserved
loop-j-preserved c = (
  below_set c.loop-j.values c.loop-j.j c.sub.result (below-p _ c.sub.ensures) c.loop-j.invariant.0,
  expand-more c.args.a c.loop-j.j c.loop-j.values c.mul.result c.sub.result (omega arith) c.mul.ensures c.sub.ensures ∙ c.loop-j.invariant.1,
)

pub returns : goal.returns
returns c = sym (expand-all c.args.a c.loop-j.j c.loop-j.values (omega arith) (c.loop-j.invariant.0 c.loop-j.j (omega arith))) ∙ c.loop-j.invariant.1
