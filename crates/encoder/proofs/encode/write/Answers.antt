-- `encode::write` meets its contract: the tree is over the codeword, and its root is copied over the whole buffer.
use mathlib.Core.Path.{ap, ◌∙◌}
use lib.ListN.{length}
use Rattle.theory.specs.Fp.{elements}
use Rattle.checks.proofs.WitnessLaws.{codeword-count, root-read, codeword-leaves}
use Rattle.encoder.proofs.encode.write.Goals as goal

pub root-digest-requires : goal.root-digest-requires
root-digest-requires c = codeword-leaves c.args.k c.requires.0 (ap length c.codeword.ensures ∙ codeword-count c.args.k c.args.points.now (elements c.args.k c.args.w.now) c.requires.5) c.depth_of.ensures

pub returns-clause-root_after : goal.returns-clause-root_after
returns-clause-root_after c = c.copy_from_slice.ensures.after ∙ c.root-digest.ensures ∙ root-read c.args.k c.args.points.now (elements c.args.k c.args.w.now) c.codeword.ensures c.depth_of.ensures
