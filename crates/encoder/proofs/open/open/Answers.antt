-- `open` meets its contract: a refusal writes nothing.
use mathlib.Core.Path.{sym}
use Rattle.std.proofs.Common.{rules}
use Rattle.theory.specs.Fp.{fp}
use Rattle.theory.specs.Calls.{«open» as open_of}
use Rattle.theory.proofs.Passed.{open-passes}
use Rattle.checks.proofs.Calls.{refuses, accepts}
use Rattle.encoder.proofs.Accepted.{open-fits}
use Rattle.encoder.proofs.open.open.Goals as goal

pub returns-in_err-verdict : goal.returns-in_err-verdict
unfolding open_of
returns-in_err-verdict c = record { answer = search rules; openings = refuses c.in_err-verdict.field-0.0 _ _ c.in_err-verdict.ensures }

pub write-requires : goal.write-requires
write-requires c =
    let a = c.args in
    let t = open-passes fp a.k a.t a.points.now a.w.now a.positions.now a.openings.now (sym c.in_ok-verdict.ensures) in
    let h = open-fits a.k a.t a.points.now a.w.now a.positions.now a.openings.now t.fits in
    (h.count, h.w-length, t.below, h.positions-length, t.inside, h.openings-length, h.points-fit)

pub returns : goal.returns
unfolding open_of
returns c = record { answer = c.in_ok-verdict.ensures; openings = accepts _ c.in_ok-verdict.ensures c.write.ensures }
