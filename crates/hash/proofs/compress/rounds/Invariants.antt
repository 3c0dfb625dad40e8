-- `compress::rounds` meets its contract. The invariant: the working variables are those after t rounds.
-- Assumes nothing.
use Rattle.std.proofs.Common.{◌≡◌}
use Rattle.hash.specs.Sha256.{rounds}
use Rattle.hash.proofs.compress.rounds.Given as goal

abbrev pub invariant-loop-t : goal.invariant-loop-t
invariant-loop-t l = l.s ≡ rounds l.k l.w l.initial.s l.t
