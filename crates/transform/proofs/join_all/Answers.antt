use mathlib.Core.Path.{sym, ◌∙◌, ap, subst}
use Prim.Native.Nat.{◌+◌, ◌*◌, ◌-◌}
use native.Mathlib.Omega.{arith}
use lib.ListN.{length, take, drop}
use Rattle.field.specs.Numbers.{Below}
use Rattle.transform.specs.Blocks.{block, joint}
use Rattle.transform.proofs.BlockLaws.{block_within, block-part, block-length, block-below, done_none, done_more}
use Rattle.transform.proofs.Butterfly.{joint-length}
use Rattle.transform.proofs.join_all.Goals as goal

pub loop-b-init : goal.loop-b-init
loop-b-init c = done_none c.args.n (c.args.half + c.args.half) _ c.args.out.now c.requires.1

pub loop-b-preserved : goal.loop-b-preserved
loop-b-preserved c =
    let size = c.args.half + c.args.half in
    done_more c.args.n size (λ i. joint c.args.table.now c.args.step c.args.half (block size i c.args.out.now)) c.args.out.now c.loop-b.b c.loop-b.out c.join.new.out (omega arith) c.loop-b.invariant
    (ap length c.join.ensures ∙ joint-length c.args.table.now c.args.step c.args.half (take (c.loop-b.b * size + size - c.loop-b.b * size) (drop (c.loop-b.b * size) c.loop-b.out)))
    (c.join.ensures ∙ ap (joint c.args.table.now c.args.step c.args.half) (block-part c.loop-b.out size c.loop-b.b ∙ c.loop-b.invariant.old c.loop-b.b (omega arith) (omega arith)))

pub returns : goal.returns
returns c = λ b h. c.loop-b.invariant.new b (omega arith)

pub overflow_add-size : goal.overflow_add-size
overflow_add-size c = omega (arith, block_within c.args.n (c.args.half + c.args.half) 0 c.requires.0, c.requires.1)

pub overflow_mul-at : goal.overflow_mul-at
overflow_mul-at c = omega (arith, block_within c.args.n (c.args.half + c.args.half) c.loop-b.b (omega arith), c.loop-b.invariant.long)

pub overflow_add-at : goal.overflow_add-at
overflow_add-at c = omega (arith, block_within c.args.n (c.args.half + c.args.half) c.loop-b.b (omega arith), c.loop-b.invariant.long)

pub offset_bounds-out-at : goal.offset_bounds-out-at
offset_bounds-out-at c = omega (arith, block_within c.args.n (c.args.half + c.args.half) c.loop-b.b (omega arith), c.loop-b.invariant.long)

pub slice_bounds-join-end : goal.slice_bounds-join-end
slice_bounds-join-end c = omega (arith, block_within c.args.n (c.args.half + c.args.half) c.loop-b.b (omega arith), c.loop-b.invariant.long)

pub join-requires : goal.join-requires
join-requires c =
    let size = c.args.half + c.args.half in
    let same = block-part c.loop-b.out size c.loop-b.b ∙ c.loop-b.invariant.old c.loop-b.b (omega arith) (omega arith) in
    (ap length same ∙ block-length c.args.out.now c.args.n size c.requires.1 c.loop-b.b (omega arith), c.requires.2, subst Below (sym same) (block-below c.args.out.now c.args.n size c.requires.1 c.requires.3 c.loop-b.b (omega arith)))
