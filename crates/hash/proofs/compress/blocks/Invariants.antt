-- `compress::blocks` meets its contract. The invariant: the value is the hash value after i blocks, and i are counted more than before.
-- Assumes nothing.
use Rattle.std.proofs.Common.{◌≡◌, ◌+◌}
use Rattle.hash.specs.Sha256.{hash}
use Rattle.hash.proofs.compress.blocks.Given as goal

abbrev pub invariant-loop-i : goal.invariant-loop-i
invariant-loop-i l = (l.state.value ≡ hash l.initial.state.value l.s l.i) × (l.state.blocks ≡ l.initial.state.blocks + l.i)
