use mathlib.Core.Path.{ap, ◌∙◌}
use native.Mathlib.Omega.{arith}
use Rattle.theory.specs.Fp.{item_below}
use Rattle.theory.proofs.CheckLaws.{every_true}
use Rattle.listing.proofs.ListedLines.{member-item, claims-more}
use Rattle.listing.proofs.listing.put_claims.Goals as goal

pub item_value-value-requires-clause-item_value : goal.item_value-value-requires-clause-item_value
item_value-value-requires-clause-item_value c = (
  ap (item_below c.args.r.sizes.m c.args.r.sizes.n) (member-item c.args.r.sizes.m c.args.r.sizes.n c.args.items.now c.loop-i.i c.item_size-size.ensures)
      ∙ every_true c.args.r.pairs _ c.requires.below c.loop-i.i c.loop-i-test.true,
  c.requires.in_order,
)

pub loop-i-preserved : goal.loop-i-preserved
loop-i-preserved c = (
  omega arith,
  claims-more c.args.r.sizes.m c.args.r.sizes.n c.args.r.sizes.k c.args.circuit.now.a.now c.args.circuit.now.b.now c.args.circuit.now.c.now c.args.items.now c.args.wits.now c.loop-i.i c.item_size-size.ensures c.get.ensures c.item_value-value.ensures c.args.text.now.bytes c.loop-i.invariant.1 c.put_claim.ensures.line,
)
