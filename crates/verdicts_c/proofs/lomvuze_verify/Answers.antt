-- `lomvuze_verify` meets its contract: verdict and count fit one number, since the count is small.
use Prim.Native.Nat.{◌≤◌}
use native.Mathlib.Omega.{arith}
use Rattle.theory.proofs.BlockCount.{blocks-few}
use Rattle.verdicts_c.proofs.lomvuze_verify.Goals as goal
use Rattle.verdicts_c.proofs.lomvuze_verify.Goals.{After-lomvuze_verify-verified}

few : (c : After-lomvuze_verify-verified) → c.lomvuze_verify-verified.result.blocks ≤ 39168
few c =
    omega (arith, c.lomvuze_verify-verified.ensures.blocks, blocks-few c.args.m c.args.n c.args.k c.args.l c.args.t c.args.challenge c.args.items.now c.args.positions.now c.args.quotient.now c.args.item.now c.args.openings.now)

pub overflow_mul-result : goal.overflow_mul-result
overflow_mul-result c = omega (arith, few (goal.at.overflow_mul-result c).After-lomvuze_verify-verified)

pub overflow_add-result : goal.overflow_add-result
overflow_add-result c = omega (arith, few (goal.at.overflow_add-result c).After-lomvuze_verify-verified)
