-- `next_words` meets its contract. The invariant: each lane before i was moved on, and the others are as they were.
-- Assumes nothing.
use mathlib.Core.List.{List}
use Prim.Native.Nat.{ℕ}
use lib.ListN.{drop}
use Rattle.hash.specs.Sha256.{scheduled}
use Rattle.lanes.specs.Lanes.{lane}
use Rattle.lanes.proofs.Lanes.{Each}
use Rattle.lanes.proofs.next_words.Given as goal

-- the sixteen words of lane q, four words on
abbrev pub moved : List ℕ → ℕ → List ℕ
moved words q = drop 4 (scheduled (lane 4 q 16 words) 4)

abbrev pub invariant-loop-i : goal.invariant-loop-i
invariant-loop-i l = Each 4 16 (moved l.initial.words) l.i l.initial.words l.words
