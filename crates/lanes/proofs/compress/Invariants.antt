-- `compress` meets its contract. The invariant: each lane has had 4 * i rounds.
-- Assumes nothing.
use mathlib.Core.Path.{◌≡◌}
use Prim.Native.Nat.{ℕ, ◌<◌, ◌*◌}
use lib.ListN.{length}
use Rattle.lanes.specs.Lanes.{lane}
use Rattle.lanes.proofs.Compression.{SoFar}
use Rattle.lanes.proofs.compress.Given as goal

abbrev pub invariant-loop-i : goal.invariant-loop-i
invariant-loop-i l = (length l.s ≡ 32) × (length l.w ≡ 64) × ((q : ℕ) → q < 4 → SoFar (lane 4 q 8 l.h) (lane 4 q 16 l.initial.w) (4 * l.i) (lane 4 q 8 l.s) (lane 4 q 16 l.w))
