-- `tree::opening_root` meets its contract. The invariant: from the own digest the siblings that are left lead where the opening leads, and
-- with the blocks on that way those of the whole opening are counted.
use mathlib.Core.Path.{◌≡◌}
use Prim.Native.Nat.{◌+◌, ◌-◌, ◌*◌}
use Rattle.hash.specs.Sha256.{block_count, digest}
use Rattle.tree.specs.Merkle.{blocks_of, climb, climb_strings}
use Rattle.tree.specs.Layout.{digests, opened_root, opened_strings}
use Rattle.tree.proofs.opening_root.Given as goal

abbrev pub invariant-loop-level : goal.invariant-loop-level
invariant-loop-level l = (climb digest l.digest l.place (digests l.s (l.at + 4 + 32 * l.level) (l.depth - l.level)) ≡ opened_root digest l.s l.at l.depth l.position)
    × (l.blocks + blocks_of block_count (climb_strings digest l.digest l.place (digests l.s (l.at + 4 + 32 * l.level) (l.depth - l.level))) ≡ blocks_of block_count (opened_strings digest l.s l.at l.depth l.position))
