-- `decide` meets its contract: check 2, and the two groups of checks of a list of one item.
use mathlib.Core.Path.{◌≡◌, refl, sym, ◌∙◌}
use Rattle.std.proofs.Common.{rules}
use Rattle.theory.specs.Checks.{answer}
use Rattle.theory.specs.Calls.{decide as decide_of}
use Rattle.theory.specs.Fp.{decide, list_checks, claim_checks}
use Rattle.checks.specs.Refusals.{number_of}
use Rattle.checks.proofs.Calls.{fails, passes, some-number, refused-with}
use Rattle.checks.proofs.ListLaws.{list-refuses, list-accepts}
use Rattle.checks.proofs.ListParts.{of-parts, one-fits}
use Rattle.decider.proofs.decide.decide.Goals as goal

pub returns-in_err-listed : goal.returns-in_err-listed
unfolding decide_of
returns-in_err-listed c =
    let a = c.args in
    let lent = a.points.now in
    let e = c.in_err-listed.field-0.0 in
    let answered : number_of e ≡ decide a.m a.n a.k a.points.now a.a.now a.b.now a.c.now a.item.now a.wit.now
    = refused-with _ e _ c.in_err-listed.ensures.value
    ∙ fails 2 _ refl (sym (one-fits a.m a.n a.k a.points.now a.a.now a.b.now a.c.now a.item.now a.wit.now) ∙ rw c.in_err-listed.ensures.ok_part at c.new.ensures) in
    search rules

pub returns-in_err-verdict : goal.returns-in_err-verdict
unfolding decide_of
returns-in_err-verdict c =
    let a = c.args in
    let lent = a.points.now in
    let e = c.in_err-verdict.field-0.0 in
    let listed = rw c.in_ok-listed.ensures.ok_part at c.new.ensures in
    let answered : number_of e ≡ decide a.m a.n a.k a.points.now a.a.now a.b.now a.c.now a.item.now a.wit.now
    = passes 2 refl (sym (one-fits a.m a.n a.k a.points.now a.a.now a.b.now a.c.now a.item.now a.wit.now) ∙ listed.0)
    (list-refuses a.m a.n a.k 1 a.points.now a.a.now a.b.now a.c.now a.item.now a.wit.now (claim_checks a.m a.n a.k 1 a.points.now a.a.now a.b.now a.c.now a.item.now a.wit.now)
    (c.in_err-verdict.ensures ∙ of-parts (λ m n k _ _ _ _ _ _. answer (list_checks m n k 1 lent a.a.now a.b.now a.c.now a.item.now a.wit.now)) listed.1) (some-number e)) in
    search rules

pub returns : goal.returns
unfolding decide_of
returns c =
    let a = c.args in
    let lent = a.points.now in
    let listed = rw c.in_ok-listed.ensures.ok_part at c.new.ensures in
    passes 2 refl (sym (one-fits a.m a.n a.k a.points.now a.a.now a.b.now a.c.now a.item.now a.wit.now) ∙ listed.0)
    (list-accepts a.m a.n a.k 1 a.points.now a.a.now a.b.now a.c.now a.item.now a.wit.now (claim_checks a.m a.n a.k 1 a.points.now a.a.now a.b.now a.c.now a.item.now a.wit.now)
    (c.in_ok-verdict.ensures ∙ of-parts (λ m n k _ _ _ _ _ _. answer (list_checks m n k 1 lent a.a.now a.b.now a.c.now a.item.now a.wit.now)) listed.1) refl
    (c.claims.ensures ∙ of-parts (λ m n k _ _ _ _ _ _. answer (claim_checks m n k 1 lent a.a.now a.b.now a.c.now a.item.now a.wit.now)) listed.1))
