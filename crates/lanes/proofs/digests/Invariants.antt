-- `digests` meets its contract. The invariants: each lane has the hash value of its first b blocks, and each digest before i is in place.
-- Assumes nothing.
use mathlib.Core.Path.{◌≡◌}
use mathlib.Core.List.{[]}
use Prim.Native.Nat.{ℕ, ◌<◌}
use lib.ListN.{length, get_or}
use Rattle.hash.specs.Sha256.{H₀, hash, bytes}
use Rattle.lanes.specs.Lanes.{lane}
use Rattle.lanes.proofs.digests.Given as goal

abbrev pub invariant-loop-b : goal.invariant-loop-b
invariant-loop-b l = (length l.value ≡ 32) × ((i : ℕ) → i < 4 → lane 4 i 8 l.value ≡ hash H₀ (get_or l.messages i []) l.b)

abbrev pub invariant-loop-i : goal.invariant-loop-i
invariant-loop-i l = (length l.out ≡ 4) × ((q : ℕ) → q < l.i → get_or l.out q [] ≡ bytes (lane 4 q 8 l.value) 8)
