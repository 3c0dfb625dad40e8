-- `levels::four_nodes` meets its contract. The invariant: the messages of the nodes before i stand padded.
use mathlib.Core.Path.{◌≡◌}
use mathlib.Core.List.{[]}
use Prim.Native.Nat.{ℕ, ◌+◌, ◌*◌, ◌<◌}
use lib.ListN.{length, get_or}
use Rattle.hash.specs.Sha256.{H₀, hash, bytes, digest}
use Rattle.tree.specs.Merkle.{node_string}
use Rattle.tree.proofs.levels.four_nodes.Given as goal

abbrev pub invariant-loop-i : goal.invariant-loop-i
invariant-loop-i l = (length l.padded ≡ 4) × ((q : ℕ) → q < l.i → bytes (hash H₀ (get_or l.padded q []) 2) 8 ≡ digest (node_string (get_or l.nodes (2 * (l.n + q)) []) (get_or l.nodes (2 * (l.n + q) + 1) [])))
