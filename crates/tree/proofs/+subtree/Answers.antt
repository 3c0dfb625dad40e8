use Prim.Native.Nat.{ℕ, ◌/◌, ◌<◌}
use native.Mathlib.Omega.{arith}
use mathlib.Core.Path.{sym, ap₂, ◌∙◌}
use mathlib.Core.List.{List}
use lib.ListN.{length}
use lib.Seq.{length-take-le}
use Rattle.hash.specs.Sha256.{digest}
use Rattle.tree.specs.Merkle.{node_string}
use Rattle.tree.proofs.Places.{depth-positive, left-length, right-length, root-halves}
use Rattle.tree.proofs.+subtree.Goals as goal

pub subtree-l-requires : goal.subtree-l-requires
subtree-l-requires t c =
    let vs = c.args.values.now in
    let more : 1 < length vs = omega arith in
    let long = left-length c.args.depth vs c.requires.0 more in
    (omega (arith, depth-positive c.args.depth vs c.requires.0 more, c.decreases), (long, omega (arith, length-take-le (length vs / 2) vs (omega arith), c.requires.1)))

pub subtree-r-requires : goal.subtree-r-requires
subtree-r-requires t c =
    let vs = c.args.values.now in
    let more : 1 < length vs = omega arith in
    let long = right-length c.args.depth vs c.requires.0 more in (
      omega (arith, depth-positive c.args.depth vs c.requires.0 more, c.decreases),
      (long, omega (arith, long, left-length c.args.depth vs c.requires.0 more, length-take-le (length vs / 2) vs (omega arith), c.requires.1)),
    )

pub returns : goal.returns
returns t c =
    c.node.ensures
    ∙ ap₂ (λ (l r : List ℕ). digest (node_string l r)) c.subtree-l.ensures c.subtree-r.ensures
    ∙ sym (root-halves c.args.depth c.args.values.now c.requires.0 (omega arith) digest c.args.first)
