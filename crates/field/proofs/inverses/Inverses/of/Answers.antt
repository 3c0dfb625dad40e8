-- `field::Inverses::of` meets its contract.
-- Assumes nothing.
use Rattle.field.proofs.SmallInverses.{inverse-at}
use Rattle.field.proofs.inverses.Inverses.of.Goals as goal

pub returns : goal.returns
returns c = inverse-at c.args.n c.args.self.now.of_each c.requires
