use mathlib.Core.Path.{refl, ◌∙◌}
use native.Mathlib.Omega.{arith}
use lib.ListN.{length}
use Rattle.algebra.proofs.Filling.{filled-all}
use Rattle.fold.proofs.Quotients.{value, values-fit, quotient_is}
use Rattle.fold.proofs.quotient.quotient.Goals as goal

pub interpolate-requires : goal.interpolate-requires
interpolate-requires c =
    let out = c.loop-i.out in
    values-fit c.args.list.now (c.loop-i.auto.out ∙ c.requires.1) (filled-all (value c.args.list.now) c.loop-i.i (length out) out (omega arith) refl c.loop-i.invariant)

pub returns : goal.returns
returns c =
    let out = c.loop-i.out in
    c.interpolate.ensures ∙ quotient_is c.args.list.now (c.loop-i.auto.out ∙ c.requires.1) (filled-all (value c.args.list.now) c.loop-i.i (length out) out (omega arith) refl c.loop-i.invariant)
