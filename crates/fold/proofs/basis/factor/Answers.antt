-- `basis::factor` meets its contract: each of the three cases is a law of the factors.
use native.Mathlib.Omega.{arith}
use Rattle.fold.proofs.Factors.{factor-same, factor-below, factor-above}
use Rattle.fold.proofs.basis.factor.Goals as goal

pub returns-then-i-j : goal.returns-then-i-j
returns-then-i-j c = factor-same c.args.i c.args.j c.args.a c.if-i-j.true

pub returns-then-j-i : goal.returns-then-j-i
returns-then-j-i c = factor-below c.args.i c.args.j c.args.a c.if-j-i.true c.sub.ensures c.of.ensures c.mul.ensures

pub returns : goal.returns
returns c = factor-above c.args.i c.args.j c.args.a (omega arith) (omega arith) c.sub-2.ensures c.of-2.ensures c.mul-2.ensures
