-- `new_item::new_numbers` meets its contract.
use native.Mathlib.Omega.{arith}
use mathlib.Core.List.{map}
use Rattle.field.specs.BabyBear.{ofℕ}
use Rattle.fold.proofs.Mixing.{length-weights}
use Rattle.fold.proofs.NewItem.{numbers-inside, new-numbers}
use Rattle.fold.proofs.new_item.new_numbers.Goals as goal

pub combine-requires : goal.combine-requires
combine-requires c =
    let w = c.args.weights.now in
    (omega (arith, length-weights w.l w.at c.as_slice.ensures, c.requires.0), numbers-inside c.args.sizes.m c.args.sizes.n w.l c.stride-stride.result w.at c.args.items.now c.stride-stride.ensures c.requires.1 c.as_slice.ensures _ c.requires.3)

pub returns : goal.returns
returns c =
    let w = c.args.weights.now in
    new-numbers c.args.sizes.m c.args.sizes.n w.l c.stride-stride.result w.at c.args.items.now c.stride-stride.ensures c.requires.1 c.as_slice.ensures (map ofℕ c.args.coefficients.now) c.requires.3 c.combine.ensures c.new_e.ensures
