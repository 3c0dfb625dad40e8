-- `cast::holds` meets its contract: the value is compared with e, which is 0.
use Rattle.decider.proofs.CastLaws.{zero_test}
use Rattle.decider.proofs.cast.holds.Goals as goal

pub returns : goal.returns
returns c = zero_test _ c.claim_value.ensures
