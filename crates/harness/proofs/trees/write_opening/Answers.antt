-- The position's bytes hold it alone, so the openings written are its opening.
use mathlib.Core.Path.{ap, ◌∙◌}
use native.Mathlib.Omega.{arith}
use Rattle.hash.specs.Sha256.{digest}
use Rattle.tree.specs.Layout.{own_openings}
use Rattle.tree.proofs.Places.{few}
use Rattle.harness.proofs.Openings.{one-position, asked, one-opening}
use Rattle.harness.proofs.trees.write_opening.Goals as goal

pub write_openings-requires : goal.write_openings-requires
write_openings-requires c =
    let h = asked c.args.depth c.args.position c.bytes_of-positions.result c.args.out.now c.requires.1 c.requires.2 c.bytes_of-positions.ensures c.requires.3 in
    (c.requires.0, c.requires.1, h.0, h.1)

pub returns : goal.returns
returns c =
    c.write_openings.ensures
    ∙ ap (own_openings digest c.args.depth c.args.values.now) (one-position _ c.args.position (omega (arith, few c.args.depth c.requires.1, c.requires.2)) c.bytes_of-positions.ensures)
    ∙ one-opening c.args.depth c.args.values.now c.args.position
