-- `Running::feed` meets its contract: the bytes stay within the unfinished block, or fill it.
use mathlib.Core.Path.{◌≡◌, refl, sym, ap, ◌∙◌}
use Prim.Native.Nat.{ℕ, ◌-◌, ◌%◌, ◌≤◌}
use native.Mathlib.Omega.{arith}
use lib.ListN.{length, take}
use lib.Seq.{length-take-le}
use borrow.Rule.Slice.PartMut.{put_mid}
use Rattle.hash.proofs.Copy.{copied}
use Rattle.running.proofs.Feeding.{feeds-within, feeds-across}
use borrow.Author.Rules.{rules}
use Rattle.running.proofs.Running.feed.Goals as goal

pub returns-then-s-room : goal.returns-then-s-room
returns-then-s-room c =
    feeds-within c.args.self _ c.args.s.now (search rules) (omega arith) (copied c.args.self.rest c.args.s.now c.copy_from_slice.new.self (c.args.self.len % 64) _ c.copy_from_slice.ensures.after (omega arith)) refl refl

pub returns : goal.returns
returns c =
    let size : length c.args.self.rest ≡ 64 = search rules in
    let many : 64 - c.args.self.len % 64 ≤ length c.args.s.now = omega arith in
    feeds-across c.args.self c.args.s.now size many
    (put_mid (c.args.self.len % 64) (length c.args.self.rest - c.args.self.len % 64) c.args.self.rest c.copy_from_slice-2.new.self)
    (copied c.args.self.rest (take (64 - c.args.self.len % 64) c.args.s.now) c.copy_from_slice-2.new.self (c.args.self.len % 64) _ c.copy_from_slice-2.ensures.after
    (ap (λ (n : ℕ). n - c.args.self.len % 64) size ∙ sym (length-take-le _ c.args.s.now many)))
    _ c.blocks-filled.result.value c.copy_from_slice-3.new.self _ c.blocks-filled.ensures.0 c.blocks-2.ensures.0 c.copy_from_slice-3.ensures.after refl refl
