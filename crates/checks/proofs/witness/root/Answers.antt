-- `witness::root` meets its contract.
use mathlib.Core.Path.{ap, ◌∙◌}
use lib.ListN.{length}
use Rattle.theory.specs.Fp.{elements}
use Rattle.checks.proofs.WitnessLaws.{codeword-count, root-read, codeword-leaves}
use Rattle.checks.proofs.witness.root.Goals as goal

pub root-requires : goal.root-requires
root-requires c = codeword-leaves c.args.k c.requires.0 (ap length c.codeword.ensures ∙ codeword-count c.args.k c.args.points.now (elements c.args.k c.args.w.now) c.requires.3) c.depth_of.ensures

pub returns : goal.returns
returns c = c.root.ensures ∙ root-read c.args.k c.args.points.now (elements c.args.k c.args.w.now) c.codeword.ensures c.depth_of.ensures
