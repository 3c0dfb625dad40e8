-- `padded_leaf` meets its contract: its message, which is padded, has one block.
-- Assumes nothing.
use Rattle.std.proofs.Common.{◌+◌, length, sym, ap, ◌∙◌, arith, length-take-le, rules}
use Rattle.hash.specs.Sha256.{padded_in}
use Rattle.hash.proofs.Tree.{leaf-message-blocks}
use Rattle.hash.proofs.padded_leaf.Goals as goal

pub slice_bounds-padded-end : goal.slice_bounds-padded-end
slice_bounds-padded-end c = sym (length-take-le _ c.leaf_message-msg.result (search rules))

pub padded-requires : goal.padded-requires
padded-requires c = omega (arith, length-take-le (5 + length c.args.value.now) c.leaf_message-msg.result (search rules))

pub returns : goal.returns
returns c = (c.padded.ensures ∙ ap (padded_in 128) c.leaf_message-msg.ensures, leaf-message-blocks c.args.position c.args.value.now (search rules) (search rules))
