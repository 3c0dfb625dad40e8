-- `open::write` meets its contract: the openings are those of the codeword.
use mathlib.Core.Path.{ap, ◌∙◌}
use native.Mathlib.Omega.{arith}
use lib.ListN.{length}
use Rattle.theory.specs.Fp.{elements}
use Rattle.checks.proofs.WitnessLaws.{codeword-count, codeword-leaves}
use Rattle.encoder.proofs.OpeningLaws.{depth-few, openings-read, positions-inside, openings-room}
use Rattle.encoder.proofs.open.write.Goals as goal

pub write_openings-requires : goal.write_openings-requires
write_openings-requires c = (
  codeword-leaves c.args.k c.requires.0 (ap length c.codeword.ensures ∙ codeword-count c.args.k c.args.points.now (elements c.args.k c.args.w.now) c.requires.6) c.depth_of.ensures,
  omega (arith, c.depth_of.ensures, depth-few c.args.k c.requires.0),
  positions-inside c.args.k c.args.t c.args.positions.now c.requires.3 c.requires.4 c.depth_of.ensures c.requires.0,
  openings-room c.args.k c.args.t c.args.positions.now c.requires.3 c.requires.4 c.depth_of.ensures c.requires.5,
)

pub returns : goal.returns
returns c =
    c.write_openings.ensures
    ∙ openings-read c.args.k c.args.t c.args.positions.now c.requires.3 c.requires.4 c.depth_of.ensures c.args.points.now c.requires.6 (elements c.args.k c.args.w.now) c.codeword.ensures
