-- `tree::write_opening` meets its contract: the value, then the path out of the digests.
use mathlib.Core.Path.{◌≡◌, ap, ◌∙◌}
use mathlib.Core.List.{List}
use Prim.Native.Nat.{ℕ, ◌+◌, ◌-◌, ◌^◌}
use native.Mathlib.Omega.{arith}
use lib.ListN.{length, get_or}
use lib.Seq.{sets}
use Rattle.hash.specs.Sha256.{digest}
use Rattle.tree.specs.Merkle.{path}
use Rattle.tree.specs.Entry.{entries}
use Rattle.tree.specs.Heap.{heap_path}
use Rattle.tree.specs.Layout.{flat}
use Rattle.tree.proofs.Heaps.{heap-path}
use Rattle.tree.proofs.Written.{write-both}
use Rattle.tree.proofs.write_opening.Goals as goal

pub returns : goal.returns
returns c =
    let es = entries c.args.values.now in
    let place : length c.args.values.now + c.args.position - 2 ^ c.args.depth ≡ c.args.position = omega (arith, c.requires.0) in
    write-both c.args.out.now c.write_value.new.out c.write_path.new.out c.args.at (get_or c.args.values.now c.args.position 0) (path digest c.args.depth es c.args.position) (omega arith)
    c.write_value.ensures
    (c.write_path.ensures
    ∙ ap (λ (ss : List (List ℕ)). sets c.write_value.new.out (c.args.at + 4) (flat ss))
    (ap (heap_path c.args.nodes.now c.args.depth) place ∙ heap-path digest c.args.depth es c.args.nodes.now c.requires.4 c.args.position c.requires.2))
