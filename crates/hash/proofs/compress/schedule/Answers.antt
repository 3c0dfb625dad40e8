-- `compress::schedule` meets its contract: the block is continued.
-- Assumes nothing.
use Rattle.std.proofs.Common.{replicate, refl, rules}
use Rattle.hash.proofs.Schedule.{whole}
use Rattle.hash.proofs.compress.schedule.Goals as goal

pub returns : goal.returns
returns c = whole c.args.m c.copy_from_slice.new.self (replicate 48 0) c.extend.new.w (search rules) refl c.copy_from_slice.ensures.after c.extend.ensures
