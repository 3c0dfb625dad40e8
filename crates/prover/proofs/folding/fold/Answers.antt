-- `folding::fold` meets its contract: a refusal leaves the buffers, an acceptance writes all three.
use borrow.Author.Rules.{rules}
use mathlib.Core.Path.{◌≡◌, sym, ap, ◌∙◌}
use Rattle.theory.specs.Results.{Folded}
use Rattle.theory.specs.Calls.{fold as fold_of}
use Rattle.checks.specs.Refusals.{answer_of}
use Rattle.checks.proofs.Calls.{refused, accepted}
use Rattle.prover.proofs.Accepted.{list-fits-here, points-asked, fold-accepted, fold-here}
use Rattle.prover.proofs.folding.fold.Goals as goal

pub returns-in_err-list : goal.returns-in_err-list
unfolding fold_of
returns-in_err-list c = record { answer = search rules; quotient = search rules; item = search rules; wit = search rules }

pub returns-in_err-verdict : goal.returns-in_err-verdict
unfolding fold_of
returns-in_err-verdict c =
    let made = rw c.in_ok-list.ensures.ok_part at c.new.ensures in
    let same : answer_of c.from_residual-in_err-verdict.result ≡ answer_of c.verdict.result = search rules in
    let here = fold-here made.1 c.args.points.now c.args.challenge c.args.quotient.now c.args.item.now c.args.wit.now in
    record {
      answer = same ∙ c.verdict.ensures ∙ ap (λ (f : Folded). f.answer) here;
      quotient = refused _ c.args.quotient.now c.verdict.ensures (search rules) ∙ ap (λ (f : Folded). f.quotient) here;
      item = refused _ c.args.item.now c.verdict.ensures (search rules) ∙ ap (λ (f : Folded). f.item) here;
      wit = refused _ c.args.wit.now c.verdict.ensures (search rules) ∙ ap (λ (f : Folded). f.wit) here;
    }

pub write-requires : goal.write-requires
write-requires c =
    let s = c.in_ok-list.list in
    let made = rw c.in_ok-list.ensures.ok_part at c.new.ensures in
    let done : answer_of c.verdict.result ≡ 0 = search rules in
    let asked = fold-accepted s c.args.points.now c.args.challenge c.args.quotient.now c.args.item.now c.args.wit.now (sym c.verdict.ensures ∙ done) in
    record { fits = (asked.0.0, asked.0.1, points-asked s c.args.points.now (list-fits-here made.1 c.args.points.now made.0)); outputs = asked.1 }

pub returns : goal.returns
unfolding fold_of
returns c =
    let made = rw c.in_ok-list.ensures.ok_part at c.new.ensures in
    let done : answer_of c.verdict.result ≡ 0 = search rules in
    let here = fold-here made.1 c.args.points.now c.args.challenge c.args.quotient.now c.args.item.now c.args.wit.now in
    record {
      answer = sym done ∙ c.verdict.ensures ∙ ap (λ (f : Folded). f.answer) here;
      quotient = accepted c.args.quotient.now c.verdict.ensures done c.write.ensures.q_after ∙ ap (λ (f : Folded). f.quotient) here;
      item = accepted c.args.item.now c.verdict.ensures done c.write.ensures.item_after ∙ ap (λ (f : Folded). f.item) here;
      wit = accepted c.args.wit.now c.verdict.ensures done c.write.ensures.wit_after ∙ ap (λ (f : Folded). f.wit) here;
    }
