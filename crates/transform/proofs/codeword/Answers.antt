use mathlib.Core.Path.{◌≡◌, refl, ◌∙◌}
use Prim.Native.Nat.{◌-◌}
use native.Mathlib.Omega.{arith}
use borrow.Author.Rules.{rules}
use lib.ListN.{length}
use Rattle.code.specs.Points.{depth}
use Rattle.transform.proofs.PlaceLaws.{blocks-power, place-few}
use Rattle.transform.proofs.Parts.{parts_first, parts-asked, values-few, parts_next, parts_last}
use Rattle.transform.proofs.codeword.Goals as goal

pub loop-n-init : goal.loop-n-init
loop-n-init c =
    let long : length c.spread.new.out ≡ length c.args.out.now = search rules in
    (refl, parts_first c.table-table.result c.args.w.now c.table-table.ensures c.requires.0 c.requires.2 (depth (length c.args.w.now) - 2) (blocks-power (length c.args.w.now) c.requires.0) (place-few (length c.args.w.now) c.requires.0) c.spread.new.out (long ∙ c.requires.1) c.spread.ensures)

pub loop-n-preserved : goal.loop-n-preserved
loop-n-preserved c =
    let long : length c.join_all.new.out ≡ length c.loop-n.out = search rules in
    (long ∙ c.loop-n.invariant.0, parts_next c.table-table.result c.args.w.now c.table-table.ensures c.requires.0 c.requires.2 c.loop-n.n c.loop-n.values c.loop-n.step c.loop-n.out (omega arith) c.loop-n.invariant.1 c.join_all.new.out long c.join_all.ensures)

pub returns : goal.returns
returns c = parts_last c.table-table.result c.args.w.now c.table-table.ensures c.requires.0 c.requires.2 c.loop-n.n c.loop-n.values c.loop-n.step c.loop-n.out (omega arith) c.loop-n.invariant.1

pub spread-requires : goal.spread-requires
spread-requires c = (c.requires.0, c.requires.1)

pub join_all-requires : goal.join_all-requires
join_all-requires c = parts-asked c.table-table.result c.args.w.now c.table-table.ensures c.requires.0 c.requires.2 c.loop-n.n c.loop-n.values c.loop-n.step c.loop-n.out (omega arith) c.loop-n.invariant.1

pub overflow_mul-values : goal.overflow_mul-values
overflow_mul-values c = omega (arith, values-few c.table-table.result c.args.w.now c.table-table.ensures c.requires.0 c.requires.2 c.loop-n.n c.loop-n.values c.loop-n.step c.loop-n.out (omega arith) c.loop-n.invariant.1, c.loop-n.invariant.0)

pub loop-n-smaller : goal.loop-n-smaller
loop-n-smaller c = omega arith

pub shape_of-out : goal.shape_of-out
shape_of-out c =
    let long : length c.spread.new.out ≡ length c.args.out.now = search rules in
    c.loop-n.invariant.0 ∙ long
