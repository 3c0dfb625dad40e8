-- `compress::round` meets its contract, by what the functions that it calls ensure, in their order.
-- Assumes nothing.
use Rattle.hash.specs.Sha256.{round_with}
use Rattle.hash.proofs.compress.round.Goals as goal

pub returns : goal.returns
unfolding round_with
returns c = cc
