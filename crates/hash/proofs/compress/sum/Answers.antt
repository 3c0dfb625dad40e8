use Rattle.std.proofs.Common.{length, refl, arith}
use Rattle.hash.specs.Sha256.{up_to}
use Rattle.hash.proofs.Fill.{fill, filled}
use Rattle.hash.proofs.compress.sum.Invariants.{at-word}
use Rattle.hash.proofs.compress.sum.Goals as goal

pub loop-i-init : goal.loop-i-init
unfolding up_to
loop-i-init c = refl

pub loop-i-preserved : goal.loop-i-preserved
loop-i-preserved c = fill (at-word c.args.x.now c.args.y.now) c.loop-i.z c.loop-i.i _ (omega arith) c.loop-i.invariant refl

pub returns : goal.returns
returns c = filled (at-word c.args.x.now c.args.y.now) c.loop-i.z c.loop-i.i (length c.args.z.now) (omega arith) c.loop-i.auto.z c.loop-i.invariant
