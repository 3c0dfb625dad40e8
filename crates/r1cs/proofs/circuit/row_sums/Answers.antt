use Prim.Native.Nat.{◌<◌}
use lib.ListN.{length}
use native.Mathlib.Omega.{arith}
use Rattle.field.proofs.Laws.{below-p}
use Rattle.r1cs.proofs.RowLaws.{summed-none, summed-below, summed-more, summed-all}
use Rattle.r1cs.proofs.circuit.row_sums.Goals as goal

pub loop-i-init : goal.loop-i-init
loop-i-init c = summed-none c.args.entries.now c.args.z.now

pub add-requires : goal.add-requires
add-requires c =
    let inside : c.get-row.result < 64 = omega (arith, (c.requires c.loop-i.i (omega arith)).0, c.get-row.ensures) in
    (summed-below c.loop-i.invariant c.get-row.result inside, below-p _ c.mul-term.ensures)

pub loop-i-preserved : goal.loop-i-preserved
loop-i-preserved c =
    let row_inside : c.get-row.result < 64 = omega (arith, (c.requires c.loop-i.i (omega arith)).0, c.get-row.ensures) in
    let column_inside : c.get-column.result < length c.args.z.now = omega (arith, (c.requires c.loop-i.i (omega arith)).1, c.get-column.ensures) in
    summed-more c.loop-i.invariant c.get-row.ensures c.get-column.ensures c.get.ensures row_inside column_inside c.mul-term.ensures c.add.ensures

pub returns : goal.returns
returns c = summed-all c.loop-i.invariant (omega arith)
