-- `message::close` meets its contract: the byte 0x80 and the length go where the padding has them.
-- Assumes nothing.
use Rattle.std.proofs.Common.{◌∙◌}
use Rattle.hash.proofs.Bytes.{in_bytes-8}
use Rattle.hash.proofs.Pad.{closed}
use Rattle.hash.proofs.message.close.Goals as goal

pub returns : goal.returns
returns c =
    closed c.args.b.now c.copy_from_slice.new.self c.args.at c.args.len
    c.requires.1 c.requires.2 c.requires.3 c.requires.4 (c.copy_from_slice.ensures.after ∙ c.to_be_bytes.ensures ∙ in_bytes-8 _)
