-- `verdict` meets its contract: the first part that refuses gives the answer.
use mathlib.Core.Path.{refl, sym, ◌∙◌}
use Rattle.std.proofs.lemmas.Result.{err_from_is_err_and}
use Rattle.checks.specs.declared.refusal.Refusal.TheVariants.{LeadingOne}
use Rattle.checks.proofs.Calls.{fails, passes, check-failed, check-passed, some-number}
use Rattle.scan.specs.Sheet.{sheet_lines}
use Rattle.validation.proofs.SheetCheckLaws.{refused, accepted}
use Rattle.validation.proofs.PartLaws.{pairs-refuse, circuit-refuses, leading-decides}
use Rattle.validation.proofs.verdict.Goals as goal

pub returns-in_err-reading : goal.returns-in_err-reading
returns-in_err-reading c =
    let told = err_from_is_err_and c.from_residual.result c.from_residual.ensures.1 in
    let first = c.in_err-reading.ensures in
    rw (told.1, told.2)
    (refused c.in_err-reading.field-0.0 (sheet_lines c.args.sheet.now) (first ∙ sym (pairs-refuse c.args.sheet.now c.args.lengths (λ z. some-number _ (first ∙ z)))))

pub returns-in_err-circuit_verdict : goal.returns-in_err-circuit_verdict
returns-in_err-circuit_verdict c =
    let told = err_from_is_err_and c.from_residual-in_err-circuit_verdict.result c.from_residual-in_err-circuit_verdict.ensures.1 in
    let second = c.in_err-circuit_verdict.ensures in
    rw (told.1, told.2)
    (refused c.in_err-circuit_verdict.field-0.0 (sheet_lines c.args.sheet.now)
    (second ∙ sym (circuit-refuses c.args.sheet.now c.args.lengths c.in_ok-reading.ensures.passed (λ z. some-number _ (second ∙ z)))))

pub returns-in_err-ensure : goal.returns-in_err-ensure
returns-in_err-ensure c =
    let told = err_from_is_err_and c.from_residual-in_err-ensure.result c.from_residual-in_err-ensure.ensures.1 in
    let failed = check-failed _ _ _ c.in_err-ensure.ensures in
    rw (told.1, told.2, ← failed.1)
    (refused LeadingOne (sheet_lines c.args.sheet.now)
    (fails 13 0 c.in_ok-reading.ensures.leading failed.0 ∙ sym (leading-decides c.args.sheet.now c.args.lengths c.in_ok-reading.ensures.passed (sym c.in_ok-circuit_verdict.ensures))))

pub returns : goal.returns
returns c =
    accepted c.args.sheet.now c.in_ok-reading.field-0.reading c.in_ok-reading.ensures.reading
    (passes 13 c.in_ok-reading.ensures.leading (check-passed _ _ _ c.in_ok-ensure.ensures) refl
    ∙ sym (leading-decides c.args.sheet.now c.args.lengths c.in_ok-reading.ensures.passed (sym c.in_ok-circuit_verdict.ensures)))
