-- `levels::fill` meets its contract: the leaves are filled in, then the inner nodes from the last to the root. The invariants: every
-- index from 4 * j on that is no index of the top holds its digest, and every index from n on.
use mathlib.Core.Logic.{◌⊎◌}
use Prim.Native.Nat.{ℕ, ◌*◌, ◌≤◌}
use Rattle.hash.specs.Sha256.{digest}
use Rattle.tree.specs.Entry.{entries_from}
use Rattle.tree.proofs.Heaps.{FilledFrom}
use Rattle.tree.proofs.levels.fill.Given as goal

abbrev pub invariant-loop-j : goal.invariant-loop-j
invariant-loop-j l = (n : ℕ) → 4 * l.j ≤ n → (4 ≤ n) ⊎ (l.count ≤ n) → FilledFrom digest l.depth (entries_from l.first l.values) n l.nodes

abbrev pub invariant-loop-n : goal.invariant-loop-n
invariant-loop-n l = FilledFrom digest l.depth (entries_from l.first l.values) l.n l.nodes
