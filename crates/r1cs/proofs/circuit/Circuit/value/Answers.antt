use native.Mathlib.Omega.{arith}
use Rattle.field.proofs.Laws.{below-p}
use Rattle.r1cs.proofs.ValueLaws.{valued-none, valued-more, row_below}
use Rattle.r1cs.proofs.circuit.Circuit.value.Goals as goal

pub loop-j-init : goal.loop-j-init
loop-j-init c =
    let s = c.args.self.now in
    valued-none s.a.now s.b.now s.c.now c.args.r.now c.args.z.now

pub sub-residual-requires : goal.sub-residual-requires
sub-residual-requires c = (below-p _ c.mul.ensures, row_below c.args.self.now.c.now c.args.z.now c.loop-j.j c.row_sums-cz.ensures (omega arith))

pub add-sum-requires : goal.add-sum-requires
add-sum-requires c = (below-p _ c.loop-j.invariant, below-p _ c.mul-in-loop-j.ensures)

pub loop-j-preserved : goal.loop-j-preserved
loop-j-preserved c =
    let s = c.args.self.now in
    valued-more s.a.now s.b.now s.c.now c.args.r.now c.args.z.now c.loop-j.j c.loop-j.invariant c.row_sums-az.ensures c.row_sums-bz.ensures c.row_sums-cz.ensures (omega arith) c.mul.ensures c.sub-residual.ensures c.weight.ensures c.mul-in-loop-j.ensures c.add-sum.ensures
