-- `quotient::quotient_value` meets its contract.
use Rattle.field.proofs.Laws.{below-p}
use Rattle.fold.proofs.Quotients.{quotient-value-is}
use Rattle.fold.proofs.quotient.quotient_value.Goals as goal

pub sub-requires : goal.sub-requires
sub-requires c = (below-p _ c.combined_value-value.ensures, below-p _ c.mixed_e-e.ensures)

pub returns : goal.returns
returns c =
    let s = c.args.list.now in
    quotient-value-is s.sizes.m s.sizes.n s.sizes.k s.l s.circuit.a.now s.circuit.b.now s.circuit.c.now s.items.now s.wits.now c.args.i c.new-weights.ensures.0 c.new-weights.ensures.1 c.combined_value-value.ensures c.mixed_e-e.ensures c.sub.ensures c.inverse_vanishing.ensures c.mul.ensures
