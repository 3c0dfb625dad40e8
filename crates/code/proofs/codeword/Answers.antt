use mathlib.Core.Path.{◌∙◌}
use mathlib.Core.List.{map}
use native.Mathlib.Omega.{arith}
use lib.ListN.{length}
use Rattle.field.specs.BabyBear.{ofℕ}
use Rattle.algebra.proofs.Filling.{filled-all}
use Rattle.code.proofs.Loops.{codeword-given}
use Rattle.code.proofs.codeword.Invariants.{at}
use Rattle.code.proofs.codeword.Goals as goal

pub returns : goal.returns
returns c =
    filled-all (at c.args.w.now c.args.points.now) c.loop-i.i (length c.args.out.now) c.loop-i.out (omega arith) (omega arith) c.loop-i.invariant
    ∙ codeword-given (length c.args.out.now) c.args.points.now (map ofℕ c.args.w.now) c.requires.0
