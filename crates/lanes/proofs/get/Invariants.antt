-- `get` meets its contract. The invariant: the first j words are in place.
-- Assumes nothing.
use mathlib.Core.Path.{◌≡◌}
use Prim.Native.Nat.{◌+◌, ◌*◌}
use lib.ListN.{take, get_or}
use Rattle.hash.specs.Sha256.{up_to}
use Rattle.lanes.proofs.get.Given as goal

abbrev pub invariant-loop-j : goal.invariant-loop-j
invariant-loop-j l = take l.j l.v ≡ up_to l.j (λ k. get_or l.s (4 * k + l.i) 0)
