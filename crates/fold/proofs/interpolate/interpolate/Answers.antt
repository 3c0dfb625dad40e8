use mathlib.Core.Path.{sym, ◌∙◌}
use Prim.Native.Nat.{◌+◌, ◌-◌, ◌<◌}
use native.Mathlib.Omega.{arith}
use lib.ListN.{length, get_or}
use Rattle.fold.proofs.Elements.{below-written}
use Rattle.fold.proofs.Newton.{slopes_at, slopes_from-left, step_at, expand_from-left}
use Rattle.fold.proofs.Interpolation.{differences-more, differences-all, expanded-none, expanded-more, interpolated}
use Rattle.fold.proofs.interpolate.interpolate.Goals as goal

pub loop-i-preserved : goal.loop-i-preserved
loop-i-preserved c =
    let inside : c.loop-i.i < length c.loop-i.values = omega arith in (
      below-written (c.loop-i.i + 1) c.loop-i.values c.slopes.new.values (slopes_at c.loop-i.i (get_or c.loop-i.values c.loop-i.i 0) (c.loop-i.i + 1) c.loop-i.values) (omega arith) c.loop-i.invariant.0 (c.slopes.ensures ∙ sym (slopes_from-left c.loop-i.i c.loop-i.values)),
      differences-more c.args.first c.loop-i.i c.loop-i.values c.slopes.new.values inside (c.loop-i.invariant.0 c.loop-i.i inside) c.slopes.auto.values c.slopes.ensures ∙ c.loop-i.invariant.1,
    )

pub loop-i-2-init : goal.loop-i-2-init
loop-i-2-init c = (c.loop-i.invariant.0, expanded-none c.args.first c.loop-i.values (length c.args.values.now) (omega arith))

pub loop-i-2-preserved : goal.loop-i-2-preserved
loop-i-2-preserved c =
    let i = c.loop-i-2.i - 1 in (
      below-written i c.loop-i-2.values c.expand.new.values (step_at (c.args.first + i) i c.loop-i-2.values) (omega arith) c.loop-i-2.invariant.0 (c.expand.ensures ∙ sym (expand_from-left i (c.args.first + i) c.loop-i-2.values)),
      expanded-more c.args.first c.loop-i.values c.loop-i-2.i c.loop-i-2.values c.expand.new.values (omega arith) (omega arith) c.loop-i-2.invariant.1 c.expand.ensures,
    )

pub returns : goal.returns
returns c = interpolated c.args.first c.loop-i-2.i c.args.values.now c.loop-i.values c.loop-i-2.values (omega arith) c.loop-i.auto.values (sym (differences-all c.args.first c.loop-i.i c.loop-i.values (omega arith)) ∙ c.loop-i.invariant.1) c.loop-i-2.invariant.1
