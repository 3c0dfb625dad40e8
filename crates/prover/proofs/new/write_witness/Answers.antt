-- `new::write_witness` meets its contract: the combination fills the front of an array.
use mathlib.Core.Path.{ap, ◌∙◌}
use Rattle.numbers.specs.Numbers.{bytes}
use Rattle.prover.proofs.Written.{witness-inside, new-witness}
use Rattle.prover.proofs.new.write_witness.Goals as goal

pub combine-requires : goal.combine-requires
combine-requires c = witness-inside c.args.list.now c.args.weights.now c.requires.0 c.as_slice.ensures

pub returns : goal.returns
returns c = c.store.ensures ∙ ap bytes (new-witness c.args.list.now c.args.weights.now c.requires.0 c.as_slice.ensures c.combine.ensures)
