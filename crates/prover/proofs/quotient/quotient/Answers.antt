-- `quotient::quotient` meets its contract: a refusal leaves the buffer, an acceptance writes the quotient.
use borrow.Author.Rules.{rules}
use mathlib.Core.Path.{◌≡◌, sym, ap, ◌∙◌}
use Rattle.theory.specs.Results.{Quotient}
use Rattle.theory.specs.Calls.{quotient as quotient_of}
use Rattle.checks.specs.Refusals.{answer_of}
use Rattle.checks.proofs.Calls.{refused, accepted}
use Rattle.prover.proofs.Accepted.{quotient-accepted, quotient-here}
use Rattle.prover.proofs.quotient.quotient.Goals as goal

pub returns-in_err-list-clause-answer : goal.returns-in_err-list-clause-answer
unfolding quotient_of
returns-in_err-list-clause-answer c = search rules

pub returns-in_err-list-clause-quotient : goal.returns-in_err-list-clause-quotient
unfolding quotient_of
returns-in_err-list-clause-quotient c = search rules

pub returns-in_err-verdict-clause-answer : goal.returns-in_err-verdict-clause-answer
unfolding quotient_of
returns-in_err-verdict-clause-answer c =
    let made = rw c.in_ok-list.ensures.ok_part at c.new.ensures in
    let same : answer_of c.from_residual-in_err-verdict.result ≡ answer_of c.verdict.result = search rules in
    same ∙ c.verdict.ensures ∙ ap (λ (q : Quotient). q.answer) (quotient-here made.1 c.args.points.now c.args.out.now)

pub returns-in_err-verdict-clause-quotient : goal.returns-in_err-verdict-clause-quotient
unfolding quotient_of
returns-in_err-verdict-clause-quotient c =
    let made = rw c.in_ok-list.ensures.ok_part at c.new.ensures in
    refused _ c.args.out.now c.verdict.ensures (search rules) ∙ ap (λ (q : Quotient). q.quotient) (quotient-here made.1 c.args.points.now c.args.out.now)

pub write-requires : goal.write-requires
write-requires c =
    let done : answer_of c.verdict.result ≡ 0 = search rules in
    quotient-accepted c.in_ok-list.list c.args.points.now c.args.out.now (sym c.verdict.ensures ∙ done)

pub returns-clause-answer : goal.returns-clause-answer
unfolding quotient_of
returns-clause-answer c =
    let made = rw c.in_ok-list.ensures.ok_part at c.new.ensures in
    let done : answer_of c.verdict.result ≡ 0 = search rules in
    sym done ∙ c.verdict.ensures ∙ ap (λ (q : Quotient). q.answer) (quotient-here made.1 c.args.points.now c.args.out.now)

pub returns-clause-quotient : goal.returns-clause-quotient
unfolding quotient_of
returns-clause-quotient c =
    let made = rw c.in_ok-list.ensures.ok_part at c.new.ensures in
    let done : answer_of c.verdict.result ≡ 0 = search rules in
    accepted c.args.out.now c.verdict.ensures done c.write.ensures ∙ ap (λ (q : Quotient). q.quotient) (quotient-here made.1 c.args.points.now c.args.out.now)
