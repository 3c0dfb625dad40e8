-- `pairs_verdict` meets its contract: the checks are run in their order, and the scan fills the buffers, whose fronts are tested as a list without
-- a circuit.
use mathlib.Core.Path.{◌≡◌, refl, sym, ap, ap₂, ◌∙◌}
use mathlib.Core.Bool.{Bool, true, ◌&&◌, and-false}
use native.Mathlib.Omega.{arith}
use lib.Seq.{length-take-le}
use Rattle.std.specs.Prelude.{replicate}
use Rattle.std.proofs.lemmas.Result.{err_from_is_err_and}
use Rattle.checks.specs.declared.refusal.Refusal.TheVariants.{Sizes}
use Rattle.checks.specs.Refusals.{number_of}
use Rattle.checks.proofs.Calls.{passes, fails, passed, check-failed, check-passed, some-number}
use Rattle.lines.specs.declared.keyword.Keyword.TheVariants.{Item, Wit}
use Rattle.scan.specs.Sheet.{sheet_lines, m, n, k, pairs, bytes_of}
use Rattle.scan.proofs.Scanned.{Filled, scanned-filled}
use Rattle.validation.specs.SheetChecks.{keeps_rules, counts_fit}
use Rattle.validation.proofs.SheetCheckLaws.{rules-ordered, scratch-pairs, ok_or-none, not-leading}
use Rattle.validation.proofs.AfterScan.{AfterScan, rules-test, counts-test, after-scan, is-reading-of, items-whole, wits-whole, items-inside, wits-inside, pairs-same}
use Rattle.validation.proofs.PartLaws.{all-pass, leading-fails, numbers-fail}
use Rattle.validation.proofs.pairs_verdict.Goals as goal
use Rattle.validation.proofs.pairs_verdict.Goals.{In_ok-reading}

-- What the tests say once check 2 is passed.
rules : (c : In_ok-reading) → keeps_rules c.args.sheet.now ≡ true
rules c = passed (rules-test c.args.sheet.now c.scan-st.ensures.state (check-passed _ _ _ c.in_ok-ensure.ensures) c.eq.ensures) (check-passed _ _ _ c.in_ok-ensure-2.ensures)

after : (c : In_ok-reading) → AfterScan c.args.sheet.now c.scan-st.result c.in_ok-reading.reading
after c = after-scan c.args.sheet.now c.scan-st.ensures.state (rules c) (rw c.in_ok-reading.ensures.ok_part at c.reading.ensures)

fit : (c : In_ok-reading) → (counts_fit (sheet_lines c.args.sheet.now) && c.args.lengths) ≡ true
fit c = ap₂ ◌&&◌ (sym (counts-test c.args.sheet.now c.scan-st.ensures.state (rules c)) ∙ (after c).fits) (check-passed _ _ _ c.in_ok-ensure-3.ensures)

items-put : (c : In_ok-reading) → Filled (bytes_of Item (sheet_lines c.args.sheet.now)) (replicate 20224 0) c.scan-st.new.items
items-put c = scanned-filled c.args.sheet.now (rules-ordered c.args.sheet.now (rules c)) Item refl (replicate 20224 0) c.scan-st.ensures.items

wits-put : (c : In_ok-reading) → Filled (bytes_of Wit (sheet_lines c.args.sheet.now)) (replicate 16384 0) c.scan-st.new.wits
wits-put c = scanned-filled c.args.sheet.now (rules-ordered c.args.sheet.now (rules c)) Wit refl (replicate 16384 0) c.scan-st.ensures.wits

pub returns-in_err-ensure-2 : goal.returns-in_err-ensure-2
returns-in_err-ensure-2 c =
    let told = err_from_is_err_and c.from_residual-in_err-ensure-2.result c.from_residual-in_err-ensure-2.ensures.1 in
    let failed = check-failed _ _ _ c.in_err-ensure-2.ensures in
    rw (told.1, told.2, ← failed.1) (fails 1 _ (rules-test c.args.sheet.now c.scan-st.ensures.state (check-passed _ _ _ c.in_ok-ensure.ensures) c.eq.ensures) failed.0)

pub returns-in_err-ensure-3 : goal.returns-in_err-ensure-3
returns-in_err-ensure-3 c =
    let told = err_from_is_err_and c.from_residual-in_err-ensure-3.result c.from_residual-in_err-ensure-3.ensures.1 in
    let failed = check-failed _ _ _ c.in_err-ensure-3.ensures in
    rw (told.1, told.2, ← failed.1)
    (passes 1 (rules-test c.args.sheet.now c.scan-st.ensures.state (check-passed _ _ _ c.in_ok-ensure.ensures) c.eq.ensures) (check-passed _ _ _ c.in_ok-ensure-2.ensures)
    (fails 2 _ refl (ap (λ (t : Bool). counts_fit (sheet_lines c.args.sheet.now) && t) failed.0 ∙ and-false _)))

pub returns-in_err-reading : goal.returns-in_err-reading
returns-in_err-reading c =
    let told = err_from_is_err_and c.from_residual-in_err-reading.result c.from_residual-in_err-reading.ensures.1 in
    let none = rw c.in_err-reading.ensures.ok_part at c.reading.ensures in
    let refusal : c.in_err-reading.field-0.0 ≡ Sizes = ok_or-none c.in_err-reading.ensures.ok_part c.in_err-reading.ensures.value in
    let tested = rules-test c.args.sheet.now c.scan-st.ensures.state (check-passed _ _ _ c.in_ok-ensure.ensures) c.eq.ensures in
    let kept = check-passed _ _ _ c.in_ok-ensure-2.ensures in
    rw (told.1, told.2, refusal)
    (passes 1 tested kept
    (fails 2 _ refl (ap (λ (t : Bool). t && c.args.lengths) (sym (counts-test c.args.sheet.now c.scan-st.ensures.state (passed tested kept)) ∙ none))))

pub overflow_mul-items : goal.overflow_mul-items
overflow_mul-items c = omega (arith, items-inside (after c))

pub slice_bounds-items-end : goal.slice_bounds-items-end
slice_bounds-items-end c = omega (arith, items-inside (after c), c.scan-st.auto.items, scratch-pairs.items-length)

pub slice_bounds-items-end-2 : goal.slice_bounds-items-end-2
slice_bounds-items-end-2 c = sym (length-take-le _ _ (omega (arith, items-inside (after (goal.at.slice_bounds-items-end-2 c).In_ok-reading), c.scan-st.auto.items, scratch-pairs.items-length)))

pub overflow_mul-wits : goal.overflow_mul-wits
overflow_mul-wits c = omega (arith, wits-inside (after (goal.at.overflow_mul-wits c).In_ok-reading))

pub slice_bounds-wits-end : goal.slice_bounds-wits-end
slice_bounds-wits-end c = omega (arith, wits-inside (after (goal.at.slice_bounds-wits-end c).In_ok-reading), c.scan-st.auto.wits, scratch-pairs.wits-length)

pub slice_bounds-wits-end-2 : goal.slice_bounds-wits-end-2
slice_bounds-wits-end-2 c = sym (length-take-le _ _ (omega (arith, wits-inside (after (goal.at.slice_bounds-wits-end-2 c).In_ok-reading), c.scan-st.auto.wits, scratch-pairs.wits-length)))

pub verdict-requires : goal.verdict-requires
verdict-requires c =
    let h = after (goal.at.verdict-requires c).In_ok-reading in (
      length-take-le _ _ (omega (arith, items-inside h, c.scan-st.auto.items, scratch-pairs.items-length)) ∙ items-whole h,
      length-take-le _ _ (omega (arith, wits-inside h, c.scan-st.auto.wits, scratch-pairs.wits-length)) ∙ omega (arith, wits-whole h),
      refl,
    )

pub returns-in-Ok : goal.returns-in-Ok
returns-in-Ok c =
    let ls = sheet_lines c.args.sheet.now in
    let read = (goal.at.returns-in-Ok c).In_ok-reading in
    let h = after read in
    let tests = all-pass (m ls) (n ls) (k ls) (pairs ls) (bytes_of Item ls) (bytes_of Wit ls) (c.in-Ok.ensures ∙ pairs-same h scratch-pairs (items-put read) (wits-put read)) in
    record {
      passed = sym (passes 1 refl (rules read) (passes 2 refl (fit read) (passes 3 refl tests.0 refl)));
      reading = is-reading-of h;
      leading = tests.1;
    }

pub returns-in-LeadingOne : goal.returns-in-LeadingOne
returns-in-LeadingOne c =
    let ls = sheet_lines c.args.sheet.now in
    let read = (goal.at.returns-in-LeadingOne c).In_ok-reading in
    let h = after read in
    let tests = leading-fails (m ls) (n ls) (k ls) (pairs ls) (bytes_of Item ls) (bytes_of Wit ls) (sym (ap number_of c.in-LeadingOne.is) ∙ c.in-Err.ensures ∙ pairs-same h scratch-pairs (items-put read) (wits-put read)) in
    record {
      passed = sym (passes 1 refl (rules read) (passes 2 refl (fit read) (passes 3 refl tests.0 refl)));
      reading = is-reading-of h;
      leading = tests.1;
    }

pub returns-in_default : goal.returns-in_default
returns-in_default c =
    let ls = sheet_lines c.args.sheet.now in
    let read = (goal.at.returns-in_default c).In_ok-reading in
    passes 1 refl (rules read)
    (passes 2 refl (fit read)
    (numbers-fail (m ls) (n ls) (k ls) (pairs ls) (bytes_of Item ls) (bytes_of Wit ls) (some-number c.in-Err.refusal) (not-leading c.in-Err.refusal c.in_default.not-LeadingOne)
    (c.in-Err.ensures ∙ pairs-same (after read) scratch-pairs (items-put read) (wits-put read))))
