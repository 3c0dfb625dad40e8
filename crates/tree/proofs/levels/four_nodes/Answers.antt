use mathlib.Core.Path.{◌≡◌, ◌∙◌}
use mathlib.Core.List.{List, []}
use Prim.Native.Nat.{ℕ, ◌+◌, ◌*◌}
use native.Mathlib.Omega.{arith}
use lib.ListN.{get_or, length-set}
use Rattle.hash.specs.Sha256.{H₀, hash, bytes, digest}
use Rattle.hash.proofs.Blocks.{padded-digest}
use Rattle.tree.specs.Merkle.{node_string}
use Rattle.tree.proofs.Stores.{set_more}
use Rattle.tree.proofs.levels.four_nodes.Goals as goal

pub loop-i-preserved : goal.loop-i-preserved
loop-i-preserved c = (
  length-set c.loop-i.padded c.loop-i.i c.padded_node.result ∙ c.loop-i.invariant.0,
  set_more (λ (q : ℕ) (p : List ℕ). bytes (hash H₀ p 2) 8 ≡ digest (node_string (get_or c.args.nodes.now (2 * (c.args.n + q)) []) (get_or c.args.nodes.now (2 * (c.args.n + q) + 1) [])))
      c.loop-i.padded c.loop-i.i c.padded_node.result [] (omega arith) c.loop-i.invariant.1 (padded-digest _ 128 c.padded_node.ensures.0 c.padded_node.ensures.1),
)
