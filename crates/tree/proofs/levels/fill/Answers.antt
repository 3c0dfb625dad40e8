use mathlib.Core.Path.{◌≡◌, refl, ap, subst, ◌∙◌}
use mathlib.Core.List.{List, []}
use mathlib.Core.Logic.{inl}
use Prim.Native.Nat.{ℕ, ◌+◌, ◌-◌, ◌*◌, ◌/◌, ◌^◌, ◌≤◌}
use native.Mathlib.Omega.{arith}
use borrow.Author.Rules.{rules}
use Rattle.std.proofs.lemmas.Bool.Decides.{nat_tests}
use lib.ListN.{length, get_or}
use Rattle.hash.specs.Sha256.{digest}
use Rattle.tree.specs.Entry.{entries_from}
use Rattle.tree.specs.Heap.{Leaves}
use Rattle.tree.proofs.Heaps.{filled-leaves, filled_step, filled-one}
use Rattle.tree.proofs.Places.{fours-end}
use Rattle.tree.proofs.Written.{put_back, put-sets}
use Rattle.tree.proofs.levels.fill.Goals as goal

pub loop-j-init : goal.loop-j-init
loop-j-init c n fours top j h p e hp hn =
    let es = entries_from c.args.first c.args.values.now in
    let end : 2 ^ c.args.depth ≤ n = fours-end c.args.depth n (omega (arith, ap (λ (k : ℕ). 4 * (k / 4)) c.requires.0)) (rw c.requires.0 at top) in
    filled-leaves digest c.args.depth es c.fill_leaves.new.nodes (subst (λ (k : ℕ). Leaves digest es k k c.fill_leaves.new.nodes) c.requires.0 c.fill_leaves.ensures) j h p e hp (omega arith)

pub loop-j-preserved : goal.loop-j-preserved
loop-j-preserved c n fours top j h p e hp hn =
    let k = c.loop-j.j - 1 in
    let es = entries_from c.args.first c.args.values.now in
    let long : length c.four_nodes-four.result ≡ 4 = search rules in
    let kept : length c.loop-j.nodes ≡ length c.args.nodes.now = search rules in
    let before = c.loop-j.invariant (4 * k + 4) (omega arith) (inl (omega arith)) in
    ap (λ (ns : List (List ℕ)). get_or ns (2 ^ h + p) []) (put-sets c.loop-j.nodes _ c.four_nodes-four.result (4 * k) 4 (omega arith) (search rules)
    (put_back c.loop-j.nodes c.four_nodes-four.result c.copy_from_slice.new.self (4 * k) _ 4 c.copy_from_slice.ensures.after (omega arith)))
    ∙ filled_step digest c.args.depth es (4 * k + 4) (4 * k) 4 c.loop-j.nodes c.four_nodes-four.result long refl (omega arith) (omega arith) (omega arith) c.four_nodes-four.ensures before j h p e hp (omega arith)

pub loop-n-init : goal.loop-n-init
loop-n-init c = c.loop-j.invariant c.min-n.result (grind (arith, nat_tests)) (grind (arith, nat_tests))

pub loop-n-preserved : goal.loop-n-preserved
loop-n-preserved c =
    let n = c.loop-n.n - 1 in
    let kept : length c.loop-n.nodes ≡ length c.args.nodes.now = search rules in
    filled-one digest c.args.depth (entries_from c.args.first c.args.values.now) n c.loop-n.nodes c.node.result (omega arith) (omega arith) (omega arith) c.node.ensures
    (λ j h p e hp hn. c.loop-n.invariant j h p e hp (omega arith))
