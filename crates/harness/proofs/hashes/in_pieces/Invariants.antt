-- `in_pieces` meets its contract. The invariant: what is fed in and what the pieces have left make the message.
use mathlib.Core.Path.{◌≡◌}
use mathlib.Core.List.{List, ◌++◌}
use Prim.Native.Nat.{ℕ}
use Rattle.std.specs.Slice.Iter.{chunks_rest}
use Rattle.running.specs.Fed.{Fed}
use Rattle.harness.proofs.hashes.in_pieces.Given as goal

abbrev pub invariant-loop-piece : goal.invariant-loop-piece
invariant-loop-piece l = (fed : List ℕ) × Fed l.state fed × (fed ++ chunks_rest l.piece-iterator ≡ l.message)
