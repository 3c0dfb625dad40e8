-- `encode` meets its contract: a refusal writes nothing.
use mathlib.Core.Path.{sym}
use Rattle.std.proofs.Common.{rules}
use Rattle.theory.specs.Fp.{fp}
use Rattle.theory.specs.Calls.{encode as encode_of}
use Rattle.theory.proofs.Passed.{encode-passes}
use Rattle.checks.proofs.Calls.{refuses, accepts}
use Rattle.encoder.proofs.Accepted.{encode-fits}
use Rattle.encoder.proofs.encode.encode.Goals as goal

pub returns-in_err-verdict : goal.returns-in_err-verdict
unfolding encode_of
returns-in_err-verdict c =
    let e = c.in_err-verdict.field-0.0 in
    record { answer = search rules; code = refuses e _ _ c.in_err-verdict.ensures; root = refuses e _ _ c.in_err-verdict.ensures }

pub write-requires : goal.write-requires
write-requires c =
    let a = c.args in
    let t = encode-passes fp a.k a.points.now a.w.now a.code.now a.root.now (sym c.in_ok-verdict.ensures) in
    let h = encode-fits a.k a.points.now a.w.now a.code.now a.root.now t.fits in
    (h.count, h.w-length, t.below, h.code-length, h.root-length, h.points-fit)

pub returns : goal.returns
unfolding encode_of
returns c =
    let passed = c.in_ok-verdict.ensures in
    record { answer = passed; code = accepts _ passed c.write.ensures.code_after; root = accepts _ passed c.write.ensures.root_after }
