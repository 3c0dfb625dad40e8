use mathlib.Core.Path.{sym, ap, ◌∙◌}
use mathlib.Core.List.{List, ◌++◌, append_assoc}
use Prim.Native.Nat.{ℕ}
use Rattle.std.specs.Slice.Iter.{chunks_rest}
use Rattle.harness.proofs.hashes.in_pieces.Goals as goal

pub loop-piece-preserved : goal.loop-piece-preserved
loop-piece-preserved c =
    let before = c.loop-piece.invariant in (
      before.0 ++ c.in-Some.piece.now,
      c.feed-state.ensures.follows _ before.1,
      append_assoc before.0 c.in-Some.piece.now (chunks_rest c.next.new.self) ∙ ap (λ (l : List ℕ). before.0 ++ l) (sym c.in-Some.ensures.steps.1.0) ∙ before.2,
    )
