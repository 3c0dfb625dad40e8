-- `list::all_hold` meets its contract.
use mathlib.Core.Path.{◌∙◌}
use Rattle.checks.proofs.ListLaws.{all-hold-read}
use Rattle.checks.proofs.list.all_hold.Goals as goal

pub returns : goal.returns
returns c =
    let s = c.args.sizes in
    let M = c.args.circuit.now in
    c.all_hold.ensures ∙ all-hold-read s.m s.n s.k c.args.l c.args.items.now c.args.wits.now c.item_size-size.ensures M.a.now M.b.now M.c.now
