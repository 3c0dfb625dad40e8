-- `tree::small_root` meets its contract: the root stands first among all digests.
use mathlib.Core.Path.{◌∙◌}
use Rattle.hash.specs.Sha256.{digest}
use Rattle.tree.specs.Entry.{entries_from}
use Rattle.tree.proofs.Entries.{length_from}
use Rattle.tree.proofs.Heaps.{heap-root}
use Rattle.tree.proofs.small_root.Goals as goal

pub returns : goal.returns
returns c = heap-root digest c.args.depth (entries_from c.args.first c.args.values.now) c.fill.new.nodes (length_from c.args.first c.args.values.now ∙ c.requires.0) c.fill.ensures
