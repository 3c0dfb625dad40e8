-- `node_message` meets its contract: the byte 0x01 and the two digests stand one after the other.
-- Assumes nothing.
use Rattle.std.proofs.Common.{rules}
use Rattle.hash.proofs.Tree.{node-message}
use Rattle.hash.proofs.node_message.Goals as goal

pub returns : goal.returns
returns c =
    node-message c.args.left c.args.right c.copy_from_slice.new.self c.copy_from_slice-2.new.self (search rules) (search rules) c.copy_from_slice.ensures.after c.copy_from_slice-2.ensures.after
