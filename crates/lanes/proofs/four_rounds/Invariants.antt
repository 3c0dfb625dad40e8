-- `four_rounds` meets its contract. The invariant: each lane before i has had its rounds, and the others are as they were.
-- Assumes nothing.
use mathlib.Core.List.{List}
use Prim.Native.Nat.{ℕ}
use Rattle.hash.specs.Sha256.{rounds}
use Rattle.lanes.specs.Lanes.{lane}
use Rattle.lanes.proofs.Lanes.{Each}
use Rattle.lanes.proofs.four_rounds.Given as goal

-- the working variables of lane q after the rounds
abbrev pub after : List ℕ → List ℕ → List ℕ → ℕ → List ℕ
after k words state q = rounds k (lane 4 q 4 words) (lane 4 q 8 state) 4

abbrev pub invariant-loop-i : goal.invariant-loop-i
invariant-loop-i l = Each 4 8 (after l.k l.words l.initial.state) l.i l.initial.state l.state
