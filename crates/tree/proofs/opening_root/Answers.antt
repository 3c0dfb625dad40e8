use mathlib.Core.Path.{◌≡◌, sym, ap, ap₂, ◌∙◌}
use mathlib.Core.List.{List}
use Prim.Native.Nat.{ℕ, suc, ◌+◌, ◌-◌, ◌*◌, ◌/◌, ◌%◌}
use native.Mathlib.Omega.{arith}
use Rattle.numbers.specs.Numbers.{bytes4}
use Rattle.hash.specs.Sha256.{block_count, digest}
use Rattle.tree.specs.Merkle.{leaf_string, joined, blocks_of, climb, climb_strings}
use Rattle.tree.specs.Entry.{entry}
use Rattle.tree.specs.Layout.{part, digests, opened_value, opened_root, opened_strings}
use Rattle.tree.proofs.Written.{climb-step, climb-blocks-step}
use Rattle.tree.proofs.ReadBack.{value-bytes}
use Rattle.tree.proofs.HashedBlocks.{opened-blocks}
use Rattle.tree.proofs.opening_root.Goals as goal
use Rattle.tree.proofs.opening_root.Goals.{After-parent-above}

pub loop-level-init : goal.loop-level-init
unfolding blocks_of
loop-level-init c =
    let four : c.args.at + 4 - c.args.at ≡ 4 = omega arith in
    let value : part c.args.s.now c.args.at (c.args.at + 4 - c.args.at) ≡ bytes4 (opened_value c.args.s.now c.args.at) =
    ap (part c.args.s.now c.args.at) four ∙ sym (value-bytes c.args.s.now c.args.at (omega arith) (λ i h. omega (arith, c.shared_slice_known-1.given i))) in
    let string = ap (λ (v : List ℕ). leaf_string (entry c.args.position v)) value in
    let own = c.leaf-blocks.ensures.0 ∙ ap digest string in
    let start : c.args.at + 4 + 0 ≡ c.args.at + 4 = omega arith in
    let all : c.args.depth - 0 ≡ c.args.depth = omega arith in
    rw (start, all) (
      ap (λ (own1 : List ℕ). climb digest own1 c.args.position (digests c.args.s.now (c.args.at + 4) c.args.depth)) own,
      ap₂ (λ (n : ℕ) (own1 : List ℕ). n + blocks_of block_count (climb_strings digest own1 c.args.position (digests c.args.s.now (c.args.at + 4) c.args.depth))) (c.leaf-blocks.ensures.1 ∙ ap block_count string) own,
    )

-- The own digest above leads where the opening leads, and its blocks and those on the way above it are counted.
above : (c : After-parent-above)
    → (climb digest c.parent-above.result.digest (c.loop-level.place / 2) (digests c.args.s.now (c.args.at + 4 + 32 * (c.loop-level.level + 1)) (c.args.depth - (c.loop-level.level + 1)))
    ≡ opened_root digest c.args.s.now c.args.at c.args.depth c.args.position)
    × (c.loop-level.blocks + c.parent-above.result.blocks + blocks_of block_count (climb_strings digest c.parent-above.result.digest (c.loop-level.place / 2) (digests c.args.s.now (c.args.at + 4 + 32 * (c.loop-level.level + 1)) (c.args.depth - (c.loop-level.level + 1))))
    ≡ blocks_of block_count (opened_strings digest c.args.s.now c.args.at c.args.depth c.args.position))
above c =
    let left = c.args.depth - (c.loop-level.level + 1) in
    let next = c.args.at + 4 + 32 * c.loop-level.level in
    let more : c.args.depth - c.loop-level.level ≡ suc left = omega arith in
    let on : c.args.at + 4 + 32 * (c.loop-level.level + 1) ≡ next + 32 = omega arith in
    let string = ap (joined (c.loop-level.place % 2) c.loop-level.digest) c.digest_at.ensures in
    let own = c.parent-above.ensures.0 ∙ ap digest string in
    let counted = c.parent-above.ensures.1 ∙ ap block_count string in
    rw on (
      climb-step digest c.args.s.now c.loop-level.digest c.parent-above.result.digest c.loop-level.place next left own ∙ (rw more at c.loop-level.invariant.0),
      omega (arith, counted, climb-blocks-step digest c.args.s.now c.loop-level.digest c.parent-above.result.digest c.loop-level.place next left own block_count, rw more at c.loop-level.invariant.1),
    )

pub overflow_add-blocks : goal.overflow_add-blocks
overflow_add-blocks c = omega (arith, (above (goal.at.overflow_add-blocks c).After-parent-above).1, opened-blocks c.args.s.now c.args.at c.args.depth c.args.position (omega arith))

pub loop-level-preserved : goal.loop-level-preserved
loop-level-preserved c = above (goal.at.loop-level-preserved c).After-parent-above

pub returns : goal.returns
unfolding climb climb_strings digests blocks_of
returns c =
    let end : c.args.depth - c.loop-level.level ≡ 0 = omega arith in
    (rw end at c.loop-level.invariant.0, omega (arith, rw end at c.loop-level.invariant.1))
