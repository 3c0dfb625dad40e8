use native.Mathlib.Omega.{arith}
use Rattle.numbers.specs.Numbers.{numbers}
use Rattle.numbers.proofs.Bytes.{count-numbers}
use Rattle.numbers.proofs.Loading.{loaded-more, loaded-all}
use Rattle.numbers.proofs.load.Goals as goal

pub loop-i-preserved : goal.loop-i-preserved
loop-i-preserved c = loaded-more (numbers c.args.b.now) c.loop-i.out c.loop-i.i c.get.result (omega arith) (omega (arith, count-numbers c.args.b.now)) c.loop-i.invariant c.get.ensures

pub returns : goal.returns
returns c = loaded-all (numbers c.args.b.now) c.loop-i.out c.loop-i.i (omega arith) (omega (arith, count-numbers c.args.b.now)) c.loop-i.invariant
