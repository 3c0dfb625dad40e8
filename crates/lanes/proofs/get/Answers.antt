use mathlib.Core.Path.{refl}
use Prim.Native.Nat.{◌+◌, ◌*◌}
use lib.ListN.{length, get_or}
use Rattle.hash.specs.Sha256.{up_to}
use Rattle.hash.proofs.Fill.{fill, filled}
use Rattle.lanes.specs.Lanes.{lane}
use native.Mathlib.Omega.{arith}
use Rattle.lanes.proofs.get.Goals as goal

pub loop-j-init : goal.loop-j-init
unfolding up_to
loop-j-init c = refl

pub loop-j-preserved : goal.loop-j-preserved
loop-j-preserved c = fill (λ k. get_or c.args.s.now (4 * k + c.args.i) 0) c.loop-j.v c.loop-j.j _ (omega arith) c.loop-j.invariant refl

pub returns : goal.returns
unfolding lane
returns c = filled (λ k. get_or c.args.s.now (4 * k + c.args.i) 0) c.loop-j.v c.loop-j.j (length c.args.v.now) (omega arith) c.loop-j.auto.v c.loop-j.invariant
