-- `transform::codeword` meets its contract. The invariant: the blocks are the codewords of the parts.
-- Assumes nothing.
use mathlib.Core.Path.{◌≡◌}
use lib.ListN.{length}
use Rattle.transform.proofs.Parts.{Parts}
use Rattle.transform.proofs.codeword.Given as goal

abbrev pub invariant-loop-n : goal.invariant-loop-n
invariant-loop-n l = (length l.out ≡ length l.initial.out) × Parts l.table l.w l.n l.values l.step l.out

abbrev pub decreases-loop-n : goal.decreases-loop-n
decreases-loop-n l = l.n
