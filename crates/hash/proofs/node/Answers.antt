-- `node` meets its contract: its message is hashed.
-- Assumes nothing.
use Rattle.std.proofs.Common.{ap, ◌∙◌}
use Rattle.hash.specs.Sha256.{block_count, digest}
use Rattle.hash.proofs.node.Goals as goal

pub returns : goal.returns
returns c = (c.digest.ensures.0 ∙ ap digest c.node_message.ensures, c.digest.ensures.1 ∙ ap block_count c.node_message.ensures)
