-- `leaf_message` meets its contract: the byte 0x00, the position and the value stand one after the other.
-- Assumes nothing.
use Rattle.std.proofs.Common.{rules}
use Rattle.hash.proofs.Tree.{leaf-message}
use Rattle.hash.proofs.leaf_message.Goals as goal

pub returns : goal.returns
returns c =
    leaf-message c.args.position c.args.value.now c.copy_from_slice.new.self c.copy_from_slice-2.new.self (search rules) c.copy_from_slice.ensures.after c.copy_from_slice-2.ensures.after
