-- `quotient::new_e` meets its contract.
use Rattle.field.proofs.Laws.{below-p}
use Rattle.fold.proofs.Quotients.{new-e-is}
use Rattle.fold.proofs.quotient.new_e.Goals as goal

pub add-requires : goal.add-requires
add-requires c = (below-p _ c.mixed_e-e.ensures, below-p _ c.mul.ensures)

pub returns : goal.returns
returns c =
    let w = c.args.weights.now in
    new-e-is c.args.m c.args.n w.l w.at c.args.items.now c.args.coefficients.now c.mixed_e-e.ensures c.vanishing.ensures c.value_at.ensures c.mul.ensures c.add.ensures
