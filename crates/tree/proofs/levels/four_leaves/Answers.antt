use mathlib.Core.Path.{◌≡◌, ap, ◌∙◌}
use mathlib.Core.List.{List, []}
use Prim.Native.Nat.{ℕ, ◌+◌}
use native.Mathlib.Omega.{arith}
use lib.ListN.{get_or, length-set}
use Rattle.hash.specs.Sha256.{H₀, hash, bytes, digest}
use Rattle.hash.proofs.Blocks.{padded-digest}
use Rattle.tree.specs.Merkle.{leaf_string}
use Rattle.tree.specs.Entry.{entries_from}
use Rattle.tree.proofs.Entries.{leaf-from}
use Rattle.tree.proofs.Stores.{set_more}
use Rattle.tree.proofs.levels.four_leaves.Goals as goal

pub loop-i-preserved : goal.loop-i-preserved
loop-i-preserved c =
    let string = leaf-from c.args.first c.args.values.now (c.args.at + c.loop-i.i) (c.args.first + c.args.at + c.loop-i.i) c.bytes_of.result c.bytes_of-value.result (omega arith) (omega arith) c.bytes_of.ensures c.bytes_of-value.ensures in (
      length-set c.loop-i.padded c.loop-i.i c.padded_leaf.result ∙ c.loop-i.invariant.0,
      set_more (λ (q : ℕ) (p : List ℕ). bytes (hash H₀ p 1) 8 ≡ digest (leaf_string (get_or (entries_from c.args.first c.args.values.now) (c.args.at + q) [])))
          c.loop-i.padded c.loop-i.i c.padded_leaf.result [] (omega arith) c.loop-i.invariant.1 (padded-digest _ 128 c.padded_leaf.ensures.0 c.padded_leaf.ensures.1 ∙ ap digest string),
    )
