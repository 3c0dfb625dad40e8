-- `leaf` meets its contract: its message is hashed.
-- Assumes nothing.
use Rattle.std.proofs.Common.{◌+◌, length, sym, ap, ◌∙◌, arith, length-take-le, rules}
use Rattle.hash.specs.Sha256.{block_count, digest}
use Rattle.hash.proofs.leaf.Goals as goal

pub slice_bounds-digest-end : goal.slice_bounds-digest-end
slice_bounds-digest-end c = sym (length-take-le _ c.leaf_message-msg.result (search rules))

pub digest-requires : goal.digest-requires
digest-requires c = omega (arith, length-take-le (5 + length c.args.value.now) c.leaf_message-msg.result (search rules))

pub returns : goal.returns
returns c = (c.digest.ensures.0 ∙ ap digest c.leaf_message-msg.ensures, c.digest.ensures.1 ∙ ap block_count c.leaf_message-msg.ensures)
