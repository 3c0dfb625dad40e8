use Rattle.std.proofs.Common.{◌≡◌, length, refl, ap, ◌∙◌, arith}
use Rattle.hash.specs.Sha256.{rounds}
use Rattle.hash.proofs.Round.{one-round}
use Rattle.hash.proofs.compress.rounds.Goals as goal

pub loop-t-init : goal.loop-t-init
unfolding rounds
loop-t-init c = refl

pub loop-t-preserved : goal.loop-t-preserved
loop-t-preserved c = one-round c.args.k.now c.args.w.now c.args.before c.loop-t.s c.round-next.result c.loop-t.t c.loop-t.invariant c.round-next.ensures

pub returns : goal.returns
returns c =
    let e : c.loop-t.t ≡ length c.args.w.now = omega arith in
    c.loop-t.invariant ∙ ap (rounds c.args.k.now c.args.w.now c.args.before) e
