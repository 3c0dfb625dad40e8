use mathlib.Core.Path.{◌≡◌, refl, ap, ◌∙◌}
use Prim.Native.Nat.{ℕ}
use lib.ListN.{length}
use Rattle.lanes.specs.Lanes.{set_lane}
use Rattle.lanes.proofs.Lanes.{set_lane-more}
use native.Mathlib.Omega.{arith}
use Rattle.lanes.proofs.put.Goals as goal

pub loop-j-init : goal.loop-j-init
unfolding set_lane
loop-j-init c = refl

pub loop-j-preserved : goal.loop-j-preserved
loop-j-preserved c = set_lane-more 4 c.args.i c.args.v.now c.args.s.now c.loop-j.s c.loop-j.j c.loop-j.invariant

pub returns : goal.returns
returns c =
    let e : c.loop-j.j ≡ length c.args.v.now = omega arith in
    c.loop-j.invariant ∙ ap (λ (n : ℕ). set_lane 4 c.args.i c.args.v.now n c.args.s.now) e
