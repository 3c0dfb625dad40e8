-- `Running::new` meets its contract: nothing is fed in yet.
use mathlib.Core.Path.{refl}
use Rattle.hash.specs.Sha256.{H₀, hash}
use Rattle.running.proofs.Running.new.Goals as goal

pub returns : goal.returns
unfolding H₀ hash
returns c = record { blocks = refl; since = refl; size = refl }
