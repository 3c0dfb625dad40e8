-- `compress::extend` meets its contract. The invariant: the first t words of the schedule are in place.
-- Assumes nothing.
use Rattle.std.proofs.Common.{◌≡◌, ◌-◌, take}
use Rattle.hash.specs.Sha256.{scheduled}
use Rattle.hash.proofs.compress.extend.Given as goal

abbrev pub invariant-loop-t : goal.invariant-loop-t
invariant-loop-t l = take l.t l.w ≡ scheduled (take 16 l.initial.w) (l.t - 16)
