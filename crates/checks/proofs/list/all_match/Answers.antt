-- `list::all_match` meets its contract.
use mathlib.Core.Path.{◌∙◌}
use Rattle.checks.proofs.ListLaws.{all-match-read}
use Rattle.checks.proofs.list.all_match.Goals as goal

pub returns : goal.returns
returns c =
    let s = c.args.sizes in
    c.all_match.ensures ∙ all-match-read s.m s.n s.k c.args.l c.args.items.now c.args.wits.now c.item_size.ensures c.args.points.now c.item_front-front.ensures
