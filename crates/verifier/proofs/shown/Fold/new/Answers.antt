-- `Fold::new` meets its contract: counts and lengths are tested.
use Rattle.std.proofs.Common.{arith}
use Rattle.std.proofs.lemmas.Grind.{common_steps}
use Rattle.verifier.proofs.shown.Fold.new.Goals as goal

pub invariant_of-result-clause-l_least : goal.invariant_of-result-clause-l_least
invariant_of-result-clause-l_least c = grind (arith, common_steps)
