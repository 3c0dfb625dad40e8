-- `leading::leading_one` meets its contract: number 0 is 1 exactly if its element is.
use mathlib.Core.Path.{ap, ◌∙◌}
use Prim.Native.Nat.{ℕ}
use lib.Dec.{eqb}
use Rattle.checks.proofs.LeadingLaws.{input-test}
use Rattle.checks.proofs.leading.leading_one.Goals as goal

pub returns : goal.returns
returns c = ap (λ (t : ℕ). eqb t 1) c.get.ensures ∙ input-test c.args.n c.args.x.now c.requires.0 c.requires.1 c.requires.2
