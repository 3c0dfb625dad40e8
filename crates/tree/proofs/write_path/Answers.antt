use mathlib.Core.Path.{◌≡◌, sym, ap, ◌∙◌}
use mathlib.Core.List.{[]}
use Prim.Native.Nat.{ℕ, suc, ◌+◌, ◌-◌, ◌*◌, ◌/◌, ◌^◌}
use native.Mathlib.Nat.{two-pow-succ}
use native.Mathlib.Omega.{arith}
use lib.ListN.{length, get_or}
use lib.Seq.{sets}
use Rattle.tree.specs.Heap.{heap_path}
use Rattle.tree.specs.Layout.{flat}
use Rattle.tree.proofs.Written.{write_step, write-end}
use Rattle.tree.proofs.write_path.Goals as goal

pub loop-level-preserved : goal.loop-level-preserved
loop-level-preserved c =
    let left = c.args.depth - (c.loop-level.level + 1) in
    let next = c.args.at + 32 * c.loop-level.level in
    let more : c.args.depth - c.loop-level.level ≡ suc left = omega arith in
    let on : c.args.at + 32 * (c.loop-level.level + 1) ≡ next + 32 = omega arith in
    let twice : 2 ^ (c.args.depth - c.loop-level.level) ≡ 2 ^ left + 2 ^ left = ap (λ (k : ℕ). 2 ^ k) more ∙ two-pow-succ left in
    let kept : length c.write_digest.new.out ≡ length c.loop-level.out = c.write_digest.auto.out in (
      omega arith,
      omega arith,
      ap (λ (k : ℕ). sets c.write_digest.new.out k (flat (heap_path c.args.nodes.now left (c.loop-level.n / 2 - 2 ^ left)))) on
          ∙ write_step c.args.nodes.now c.loop-level.out c.write_digest.new.out _ next left c.loop-level.n (omega (arith, two-pow-succ left)) (omega arith) kept (ap (λ (n : ℕ). get_or c.args.nodes.now n []) c.sibling.ensures) c.write_digest.ensures
          ∙ ap (λ (k : ℕ). sets c.loop-level.out next (flat (heap_path c.args.nodes.now k (c.loop-level.n - 2 ^ k)))) (sym more)
          ∙ c.loop-level.invariant.2,
    )

pub returns : goal.returns
returns c =
    write-end c.args.nodes.now c.loop-level.out (c.args.at + 32 * c.loop-level.level) (c.args.depth - c.loop-level.level) (c.loop-level.n - 2 ^ (c.args.depth - c.loop-level.level)) (omega arith)
    ∙ c.loop-level.invariant.2
