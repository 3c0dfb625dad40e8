-- `quotient::mixed_e` meets its contract.
use mathlib.Core.Path.{ap, ◌∙◌}
use Rattle.field.specs.BabyBear.{val}
use Rattle.fold.proofs.Mixing.{e-inside, mixed-e}
use Rattle.fold.proofs.quotient.mixed_e.Goals as goal

pub weighted-requires : goal.weighted-requires
weighted-requires c =
    let w = c.args.weights.now in
    e-inside w.l w.at c.as_slice.ensures c.args.m c.args.n c.args.stride c.args.items.now c.requires.1 c.requires.0

pub returns : goal.returns
returns c =
    let w = c.args.weights.now in
    c.weighted.ensures ∙ ap val (mixed-e w.l w.at c.as_slice.ensures c.args.m c.args.n c.args.stride c.args.items.now c.requires.1 c.requires.0)
