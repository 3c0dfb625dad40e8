-- `draw_positions` meets its contract: a refusal writes nothing.
use mathlib.Core.Path.{sym}
use Prim.Native.Nat.{◌*◌}
use native.Mathlib.Omega.{arith}
use borrow.Author.Tests.{leb-true}
use lib.Dec.{leb}
use Rattle.std.proofs.Common.{rules}
use Rattle.numbers.proofs.Tests.{and_right}
use Rattle.code.proofs.Sizes.{count-few}
use Rattle.checks.proofs.Calls.{refuses, accepts}
use Rattle.draw.specs.Draw.{draw_positions}
use Rattle.draw.proofs.Passed.{positions-pass}
use Rattle.draw.proofs.positions.draw_positions.Goals as goal

pub returns-in_err-verdict : goal.returns-in_err-verdict
unfolding draw_positions
returns-in_err-verdict c = record { answer = search rules; positions = refuses c.in_err-verdict.field-0.0 _ _ c.in_err-verdict.ensures }

pub write-requires : goal.write-requires
write-requires c =
    let a = c.args in
    let h = (positions-pass a.k a.l a.t a.challenge a.seed.now a.root.now a.positions.now (sym c.in_ok-verdict.ensures)).fits in
    let few = leb-true a.t (4 * a.k) (and_right (leb 1 a.t) (leb a.t (4 * a.k)) h.positions-count) in
    (h.count, omega (arith, few, count-few a.k h.count), h.seed-length, h.root-length, h.positions-length)

pub returns : goal.returns
unfolding draw_positions
returns c = let passed = c.in_ok-verdict.ensures in record { answer = passed; positions = accepts _ passed c.write.ensures }
