-- `claims::item_value` meets its contract: r and x are parts of the item.
use mathlib.Core.Path.{◌∙◌}
use Rattle.theory.specs.Fp.{elements, circuit}
use Rattle.checks.proofs.ItemTests.{r-below, item-value-read}
use Rattle.checks.proofs.claims.item_value.Goals as goal

pub claim_value-requires-clause-r_value : goal.claim_value-requires-clause-r_value
claim_value-requires-clause-r_value c = (r-below c.args.m c.args.n c.args.item.now c.requires.m_bound.3 c.requires.item_value.0, c.requires.item_value.1)

pub returns : goal.returns
returns c =
    let M = c.args.circuit.now in
    c.claim_value.ensures ∙ item-value-read c.args.m c.args.n c.args.item.now c.requires.m_bound.3 (circuit M.a.now M.b.now M.c.now) (elements c.args.k c.args.wit.now)
