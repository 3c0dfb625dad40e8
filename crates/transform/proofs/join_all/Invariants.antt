-- `transform::join_all` meets its contract. The invariant: the blocks before b are joined, and the others are as they were.
-- Assumes nothing.
use Prim.Native.Nat.{◌+◌}
use Rattle.transform.specs.Blocks.{block, joint}
use Rattle.transform.proofs.BlockLaws.{Done}
use Rattle.transform.proofs.join_all.Given as goal

abbrev pub invariant-loop-b : goal.invariant-loop-b
invariant-loop-b l = Done l.n (l.half + l.half) (λ c. joint l.table l.step l.half (block (l.half + l.half) c l.initial.out)) l.initial.out l.b l.out
