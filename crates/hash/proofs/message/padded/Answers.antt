-- `message::padded` meets its contract: the message stands at the front of zeros, and its padding is written behind it.
-- Assumes nothing.
use Rattle.std.proofs.Common.{◌≡◌, length, refl, arith, ap, rules}
use Rattle.hash.proofs.Pad.{length_front, zeros-behind, padded-is}
use Rattle.hash.proofs.message.padded.Goals as goal

pub close-requires : goal.close-requires
close-requires c =
    let size : length c.copy_from_slice.new.self ≡ length c.args.msg.now = ap length c.copy_from_slice.ensures.after in
    (search rules, length_front _ _ size (omega arith), search rules, refl, zeros-behind _ _ size (omega arith))

pub returns : goal.returns
returns c = padded-is c.args.msg.now c.copy_from_slice.new.self c.close.new.b c.copy_from_slice.ensures.after c.close.ensures
