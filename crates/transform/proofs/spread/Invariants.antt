-- `transform::spread` meets its contract. The invariant: the blocks before b are written, and their places found.
-- Assumes nothing.
use mathlib.Core.List.{List}
use Prim.Native.Nat.{ℕ, ◌-◌}
use lib.ListN.{length, get_or, replicate}
use Rattle.code.specs.Points.{depth}
use Rattle.transform.specs.Blocks.{place}
use Rattle.transform.proofs.BlockLaws.{Done}
use Rattle.transform.proofs.PlaceLaws.{Found}
use Rattle.transform.proofs.spread.Given as goal

-- Block b.
abbrev pub written : List ℕ → ℕ → List ℕ
written w b = replicate 4 (get_or w (place (depth (length w) - 2) b) 0)

abbrev pub invariant-loop-b : goal.invariant-loop-b
invariant-loop-b l = Done (length l.w) 4 (written l.w) l.initial.out l.b l.out × Found (length l.w) l.b l.place
