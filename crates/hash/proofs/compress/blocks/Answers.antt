use Rattle.std.proofs.Common.{◌≡◌, ◌/◌, length, refl, ap, ◌∙◌, arith}
use Rattle.hash.specs.Sha256.{hash}
use Rattle.hash.proofs.Blocks.{one_block}
use Rattle.hash.proofs.compress.blocks.Goals as goal

pub loop-i-init : goal.loop-i-init
unfolding hash
loop-i-init c = (refl, omega arith)

pub loop-i-preserved : goal.loop-i-preserved
loop-i-preserved c = (
  one_block c.args.s.now c.args.before.value c.loop-i.state.value c.block.result c.compress-state.result c.loop-i.i c.loop-i.invariant.0 c.block.ensures c.compress-state.ensures,
  omega arith,
)

pub returns : goal.returns
returns c =
    let e : c.loop-i.i ≡ length c.args.s.now / 64 = omega arith in
    (c.loop-i.invariant.0 ∙ ap (hash c.args.before.value c.args.s.now) e, omega arith)
