-- `compress::compress` meets its contract. The invariant: the working variables are those after 8 * i rounds.
-- Assumes nothing.
use Rattle.std.proofs.Common.{◌≡◌, ◌*◌}
use Rattle.hash.specs.Sha256.{K, rounds}
use Rattle.hash.proofs.compress.compress.Given as goal

abbrev pub invariant-loop-i : goal.invariant-loop-i
invariant-loop-i l = l.s ≡ rounds K l.w l.initial.s (8 * l.i)
