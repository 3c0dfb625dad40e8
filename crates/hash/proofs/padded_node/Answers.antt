-- `padded_node` meets its contract: its message, which is padded, has two blocks.
-- Assumes nothing.
use Rattle.std.proofs.Common.{ap, ◌∙◌, rules}
use Rattle.hash.specs.Sha256.{padded_in}
use Rattle.hash.proofs.Tree.{node-message-blocks}
use Rattle.hash.proofs.padded_node.Goals as goal

pub returns : goal.returns
returns c = (c.padded.ensures ∙ ap (padded_in 128) c.node_message.ensures, node-message-blocks c.args.left c.args.right (search rules) (search rules))
