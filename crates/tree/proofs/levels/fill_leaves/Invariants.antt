-- `levels::fill_leaves` meets its contract. The invariants: the digests of the first 4 * j leaves, and of the leaves before i, are in place.
use Prim.Native.Nat.{◌*◌}
use Rattle.hash.specs.Sha256.{digest}
use Rattle.tree.specs.Entry.{entries_from}
use Rattle.tree.specs.Heap.{Leaves}
use Rattle.tree.proofs.levels.fill_leaves.Given as goal

abbrev pub invariant-loop-j : goal.invariant-loop-j
invariant-loop-j l = Leaves digest (entries_from l.first l.values) l.count (4 * l.j) l.nodes

abbrev pub invariant-loop-i : goal.invariant-loop-i
invariant-loop-i l = Leaves digest (entries_from l.first l.values) l.count l.i l.nodes
