use Rattle.std.proofs.Common.{length, take, refl, arith}
use Rattle.hash.proofs.Schedule.{start, one_more, extended}
use Rattle.hash.proofs.compress.extend.Goals as goal

pub loop-t-init : goal.loop-t-init
loop-t-init c = start c.args.w.now 16 refl

pub loop-t-preserved : goal.loop-t-preserved
loop-t-preserved c = one_more (take 16 c.args.w.now) c.loop-t.w c.loop-t.t c.next_word.result (omega arith) (omega arith) c.loop-t.invariant c.next_word.ensures

pub returns : goal.returns
returns c = extended (take 16 c.args.w.now) c.loop-t.w c.loop-t.t (length c.args.w.now) (omega arith) c.loop-t.auto.w c.loop-t.invariant
