-- `chain::chain` meets its contract.
use mathlib.Core.Path.{◌≡◌, refl, sym, ◌∙◌}
use mathlib.Core.Bool.{true}
use Rattle.std.proofs.Common.{rules}
use Rattle.theory.specs.Fp.{interleave_fits}
use Rattle.checks.specs.Refusals.{answer_of}
use Rattle.checks.proofs.Calls.{check-failed, check-passed}
use Rattle.chain.proofs.Lengths.{wits-size}
use Rattle.chain.proofs.Refusals.{accepted-is}
use Rattle.chain.proofs.Chaining.{none-called, fold-refuses, open-refuses, all-called}
use Rattle.chain.proofs.chain.Goals as goal
use Rattle.chain.proofs.chain.Goals.{In_ok-ensure}

-- The two buffers have their lengths.
fit : (c : In_ok-ensure) → (interleave_fits c.args.k c.args.l c.args.t c.args.opened.now c.args.openings.now ≡ true)
fit c = sym c.fits.ensures ∙ check-passed c.fits.result _ _ c.in_ok-ensure.ensures

pub returns-in_err-ensure : goal.returns-in_err-ensure
returns-in_err-ensure c =
    let told = check-failed c.fits.result _ _ c.in_err-ensure.ensures in
    let same : answer_of c.from_residual.result ≡ 2 = search rules in
    let promised = none-called c.args.m c.args.n c.args.k c.args.l c.args.t c.args.challenge c.args.points.now c.args.a.now c.args.b.now c.args.c.now c.args.items.now c.args.wits.now c.args.positions.now c.args.quotient.now c.args.item.now c.args.wit.now c.args.opened.now c.args.openings.now (sym c.fits.ensures ∙ told.0) in
    record { honest = λ honest permitted allowed outputs both. accepted-is _ (same ∙ promised.0 honest permitted allowed outputs both); answer = same ∙ promised.1.0; quotient = promised.1.1.0; item = promised.1.1.1.0; wit = promised.1.1.1.1.0; opened = promised.1.1.1.1.1.0; openings = promised.1.1.1.1.1.1 }

pub returns-in_err-lomvuze_fold : goal.returns-in_err-lomvuze_fold
returns-in_err-lomvuze_fold c =
    let same : answer_of c.from_residual-in_err-lomvuze_fold.result ≡ answer_of c.lomvuze_fold.result = search rules in
    let promised = fold-refuses c.args.m c.args.n c.args.k c.args.l c.args.t c.args.challenge c.args.points.now c.args.a.now c.args.b.now c.args.c.now c.args.items.now c.args.wits.now c.args.positions.now c.args.quotient.now c.args.item.now c.args.wit.now c.args.opened.now c.args.openings.now (fit (goal.at.returns-in_err-lomvuze_fold c).In_ok-ensure)
    (answer_of c.lomvuze_fold.result) c.lomvuze_fold.new.quotient c.lomvuze_fold.new.item c.lomvuze_fold.new.wit
    c.lomvuze_fold.ensures.answer c.lomvuze_fold.ensures.quotient c.lomvuze_fold.ensures.item c.lomvuze_fold.ensures.wit
    (search rules) in
    record { honest = λ honest permitted allowed outputs both. accepted-is _ (same ∙ promised.0 honest permitted allowed outputs both); answer = same ∙ promised.1.0; quotient = promised.1.1.0; item = promised.1.1.1.0; wit = promised.1.1.1.1.0; opened = promised.1.1.1.1.1.0; openings = promised.1.1.1.1.1.1 }

pub show-requires : goal.show-requires
show-requires c =
    let folds : answer_of c.lomvuze_fold.result ≡ 0 = search rules in (
      wits-size c.args.m c.args.n c.args.k c.args.l c.args.challenge c.args.points.now c.args.a.now c.args.b.now c.args.c.now c.args.items.now c.args.wits.now c.args.quotient.now c.args.item.now c.args.wit.now
          (sym c.lomvuze_fold.ensures.answer ∙ folds),
      fit (goal.at.show-requires c).In_ok-ensure,
    )

pub returns-in_err-show : goal.returns-in_err-show
returns-in_err-show c =
    let same : answer_of c.from_residual-in_err-show.result ≡ answer_of c.show.result = search rules in
    let folds : answer_of c.lomvuze_fold.result ≡ 0 = search rules in
    let promised = open-refuses c.args.m c.args.n c.args.k c.args.l c.args.t c.args.challenge c.args.points.now c.args.a.now c.args.b.now c.args.c.now c.args.items.now c.args.wits.now c.args.positions.now c.args.quotient.now c.args.item.now c.args.wit.now c.args.opened.now c.args.openings.now (fit (goal.at.returns-in_err-show c).In_ok-ensure)
    (answer_of c.lomvuze_fold.result) c.lomvuze_fold.new.quotient c.lomvuze_fold.new.item c.lomvuze_fold.new.wit
    c.lomvuze_fold.ensures.answer c.lomvuze_fold.ensures.quotient c.lomvuze_fold.ensures.item c.lomvuze_fold.ensures.wit
    folds (answer_of c.show.result) c.show.new.opened c.show.new.openings c.show.ensures.value c.show.ensures.opened_after c.show.ensures.openings_after
    (search rules) in
    record { honest = λ honest permitted allowed outputs both. accepted-is _ (same ∙ promised.0 honest permitted allowed outputs both); answer = same ∙ promised.1.0; quotient = promised.1.1.0; item = promised.1.1.1.0; wit = promised.1.1.1.1.0; opened = promised.1.1.1.1.1.0; openings = promised.1.1.1.1.1.1 }

pub returns : goal.returns
returns c =
    let same : answer_of c.verify_and_decide.result ≡ answer_of c.verify_and_decide.result = refl in
    let folds : answer_of c.lomvuze_fold.result ≡ 0 = search rules in
    let opens : answer_of c.show.result ≡ 0 = search rules in
    let promised = all-called c.args.m c.args.n c.args.k c.args.l c.args.t c.args.challenge c.args.points.now c.args.a.now c.args.b.now c.args.c.now c.args.items.now c.args.wits.now c.args.positions.now c.args.quotient.now c.args.item.now c.args.wit.now c.args.opened.now c.args.openings.now (fit (goal.at.returns c).In_ok-ensure)
    (answer_of c.lomvuze_fold.result) c.lomvuze_fold.new.quotient c.lomvuze_fold.new.item c.lomvuze_fold.new.wit
    c.lomvuze_fold.ensures.answer c.lomvuze_fold.ensures.quotient c.lomvuze_fold.ensures.item c.lomvuze_fold.ensures.wit
    folds (answer_of c.show.result) c.show.new.opened c.show.new.openings c.show.ensures.value c.show.ensures.opened_after c.show.ensures.openings_after
    opens (answer_of c.verify_and_decide.result) c.verify_and_decide.ensures in
    record { honest = λ honest permitted allowed outputs both. accepted-is _ (same ∙ promised.0 honest permitted allowed outputs both); answer = same ∙ promised.1.0; quotient = promised.1.1.0; item = promised.1.1.1.0; wit = promised.1.1.1.1.0; opened = promised.1.1.1.1.1.0; openings = promised.1.1.1.1.1.1 }
