-- `row::append` meets its contract: the bytes are copied where there is room.
use Prim.Native.Nat.{◌+◌, ◌-◌, ◌*◌}
use native.Mathlib.Omega.{arith}
use Rattle.tree.proofs.Written.{put_back}
use Rattle.lines.proofs.AppendLaws.{appended-put, appended-full}
use Rattle.lines.proofs.row.append.Goals as goal

pub returns-then-end-buffer : goal.returns-then-end-buffer
returns-then-end-buffer g c =
    appended-put c.args.count c.args.bytes c.args.buffer.now (omega (arith, c.copy_from_slice.ensures.len))
    (put_back c.args.buffer.now c.args.bytes c.copy_from_slice.new.self (4 * c.args.count) (4 * c.args.count + g.row.N - 4 * c.args.count) _ c.copy_from_slice.ensures.after (omega (arith, c.copy_from_slice.ensures.len)))

pub returns-else-end-buffer : goal.returns-else-end-buffer
returns-else-end-buffer g c = let h = c.well_formed in appended-full c.args.count c.args.bytes c.args.buffer.now (omega (arith, h))
