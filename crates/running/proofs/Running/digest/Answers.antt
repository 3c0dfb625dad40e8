-- `Running::digest` meets its contract: the bytes since, and the padding, are the last blocks.
use mathlib.Core.Path.{◌≡◌, ap, ◌∙◌}
use Prim.Native.Nat.{◌%◌}
use native.Mathlib.Omega.{arith}
use lib.ListN.{length}
use lib.Seq.{length-take-le}
use Rattle.hash.proofs.Pad.{length_front, zeros-behind}
use Rattle.running.proofs.Closing.{closes}
use borrow.Author.Rules.{rules}
use Rattle.running.proofs.Running.digest.Goals as goal

pub close-requires : goal.close-requires
close-requires c =
    let all : length c.args.self.rest ≡ 64 = search rules in
    let size : length c.copy_from_slice.new.self ≡ c.args.self.len % 64 = ap length c.copy_from_slice.ensures.after ∙ length-take-le _ c.args.self.rest (omega arith) in
    (search rules, length_front _ _ size (omega arith), omega arith, search rules, zeros-behind _ _ size (omega arith))

pub returns : goal.returns
returns c = λ m. closes c.args.self m c.copy_from_slice.new.self c.close.new.b c.blocks-all.result.value c.bytes.result c.copy_from_slice.ensures.after c.close.ensures c.blocks-all.ensures.0 c.bytes.ensures
