-- `block` meets its contract. The invariant: the words of each message before i are in place.
-- Assumes nothing.
use mathlib.Core.Path.{◌≡◌}
use mathlib.Core.List.{List, []}
use Prim.Native.Nat.{ℕ}
use lib.ListN.{length, get_or}
use Rattle.hash.specs.Sha256.{words}
use Rattle.lanes.proofs.Lanes.{Each}
use Rattle.lanes.proofs.block.Given as goal

-- the block of message q
abbrev pub block_of : List (List ℕ) → ℕ → ℕ → List ℕ
block_of messages at q = words (get_or messages q []) at

abbrev pub invariant-loop-i : goal.invariant-loop-i
invariant-loop-i l = (length l.m ≡ 64) × Each 4 16 (block_of l.messages l.at) l.i l.initial.m l.m
