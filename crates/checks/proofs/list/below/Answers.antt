-- `list::below` meets its contract.
use mathlib.Core.Path.{ap₂, ◌∙◌}
use mathlib.Core.Bool.{◌&&◌}
use Rattle.checks.proofs.ListLaws.{items-below-read}
use Rattle.checks.proofs.list.below.Goals as goal

pub returns : goal.returns
returns c =
    let s = c.args.sizes in
    ap₂ ◌&&◌
    (ap₂ ◌&&◌ c.circuit_below.ensures (c.items_below.ensures ∙ items-below-read s.m s.n c.args.l c.args.items.now c.item_numbers.ensures c.item_size.ensures))
    c.elements_below.ensures
