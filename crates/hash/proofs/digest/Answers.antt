-- `digest` meets its contract: the whole blocks of the message, and its last blocks, are the blocks of the padded message.
-- Assumes nothing.
use Rattle.std.proofs.Common.{◌≡◌, ◌%◌, length, refl, arith, rules, length-take-le}
use Rattle.hash.specs.Sha256.{H₀}
use Rattle.hash.proofs.Pad.{length_front, zeros-behind, length_rest, last-is}
use Rattle.hash.proofs.Blocks.{all_blocks, all-counted}
use Rattle.hash.proofs.digest.Goals as goal

pub close-requires : goal.close-requires
close-requires c =
    let size : length c.copy_from_slice.new.self ≡ length c.args.msg.now % 64 = length_rest c.args.msg.now c.copy_from_slice.new.self c.copy_from_slice.ensures.after in
    (search rules, length_front _ _ size (omega arith), omega arith, search rules, zeros-behind _ _ size (omega arith))

pub returns : goal.returns
unfolding H₀
returns c = (
  all_blocks c.args.msg.now c.blocks-whole.result.value c.close.new.b _ c.blocks-all.result.value c.bytes.result _
      c.blocks-whole.ensures.0
      (last-is c.args.msg.now c.copy_from_slice.new.self c.copy_from_slice.ensures.after _ c.close.new.b c.close.ensures)
      refl c.blocks-all.ensures.0 c.bytes.ensures,
  all-counted c.args.msg.now c.blocks-whole.ensures.1 (length-take-le _ c.close.new.b (search rules)) c.blocks-all.ensures.1,
)
