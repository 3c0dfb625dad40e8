use Rattle.std.proofs.Common.{◌+◌, ◌*◌, refl, arith, length-set}
use Rattle.hash.specs.Sha256.{word, words, up_to}
use Rattle.hash.proofs.Fill.{fill, filled}
use Rattle.hash.proofs.message.block.Goals as goal

pub loop-j-init : goal.loop-j-init
unfolding up_to
loop-j-init c = (refl, refl)

pub loop-j-preserved : goal.loop-j-preserved
loop-j-preserved c = (
  simp length-set c.loop-j.invariant.0,
  fill (λ k. word c.args.s.now (c.args.at + 4 * k)) c.loop-j.m c.loop-j.j c.from_be_bytes.result (omega arith) c.loop-j.invariant.1 c.from_be_bytes.ensures,
)

pub returns : goal.returns
unfolding words
returns c = filled (λ k. word c.args.s.now (c.args.at + 4 * k)) c.loop-j.m c.loop-j.j 16 (omega arith) c.loop-j.invariant.0 c.loop-j.invariant.1
