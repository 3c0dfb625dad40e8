-- `levels::four_leaves` meets its contract. The invariant: the messages of the leaves before i stand padded.
use mathlib.Core.Path.{◌≡◌}
use mathlib.Core.List.{[]}
use Prim.Native.Nat.{ℕ, ◌+◌, ◌<◌}
use lib.ListN.{length, get_or}
use Rattle.hash.specs.Sha256.{H₀, hash, bytes, digest}
use Rattle.tree.specs.Merkle.{leaf_string}
use Rattle.tree.specs.Entry.{entries_from}
use Rattle.tree.proofs.levels.four_leaves.Given as goal

abbrev pub invariant-loop-i : goal.invariant-loop-i
invariant-loop-i l = (length l.padded ≡ 4) × ((q : ℕ) → q < l.i → bytes (hash H₀ (get_or l.padded q []) 1) 8 ≡ digest (leaf_string (get_or (entries_from l.first l.values) (l.at + q) [])))
