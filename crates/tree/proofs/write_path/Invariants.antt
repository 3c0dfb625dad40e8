-- `tree::write_path` meets its contract. The invariant: writing the rest of the path gives what writing the whole path gives. The own
-- node is depth - level levels below the root.
use mathlib.Core.Path.{◌≡◌}
use Prim.Native.Nat.{◌+◌, ◌-◌, ◌*◌, ◌^◌, ◌≤◌, ◌<◌}
use lib.Seq.{sets}
use Rattle.tree.specs.Heap.{heap_path}
use Rattle.tree.specs.Layout.{flat}
use Rattle.tree.proofs.write_path.Given as goal

abbrev pub invariant-loop-level : goal.invariant-loop-level
invariant-loop-level l = (2 ^ (l.depth - l.level) ≤ l.n)
    × (l.n < 2 * 2 ^ (l.depth - l.level))
    × (sets l.out (l.at + 32 * l.level) (flat (heap_path l.nodes (l.depth - l.level) (l.n - 2 ^ (l.depth - l.level)))) ≡ sets l.initial.out l.at (flat (heap_path l.nodes l.depth (l.leaf - 2 ^ l.depth))))
