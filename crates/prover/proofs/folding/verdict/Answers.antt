-- `folding::verdict` meets its contract: check 2, and check 5 between the two groups of checks of a list.
use borrow.Author.Rules.{rules}
use mathlib.Core.Path.{◌≡◌, refl, ◌∙◌}
use mathlib.Core.Bool.{true, false}
use mathlib.Core.List.{◌∷◌}
use Rattle.theory.specs.Checks.{check}
use Rattle.theory.specs.Fp.{challenge_fits, fold_outputs_fit}
use Rattle.checks.specs.Refusals.{answer_of}
use Rattle.checks.proofs.Calls.{passes, fails}
use Rattle.prover.proofs.Accepted.{claims-of, list-refused, behind-list}
use Rattle.prover.proofs.folding.verdict.Goals as goal

pub returns-in_err-verdict : goal.returns-in_err-verdict
returns-in_err-verdict c =
    let s = c.args.list.now in
    let fits : fold_outputs_fit s.sizes.m s.sizes.n s.sizes.k s.l c.args.q.now c.args.item.now c.args.wit.now ≡ true = search rules in
    let same : answer_of c.from_residual-in_err-verdict.result ≡ answer_of c.verdict.result = search rules in
    same ∙ list-refused s c.args.points.now (check 5 (challenge_fits s.l c.args.challenge) ∷ claims-of s c.args.points.now) c.requires fits c.verdict.ensures (search rules)

pub returns-in_err-ensure-2 : goal.returns-in_err-ensure-2
returns-in_err-ensure-2 c =
    let s = c.args.list.now in
    let fits : fold_outputs_fit s.sizes.m s.sizes.n s.sizes.k s.l c.args.q.now c.args.item.now c.args.wit.now ≡ true = search rules in
    let listed : answer_of c.verdict.result ≡ 0 = search rules in
    let failed : challenge_fits s.l c.args.challenge ≡ false = search rules in
    let refused : answer_of c.from_residual-in_err-ensure-2.result ≡ 5 = search rules in
    refused ∙ behind-list s c.args.points.now (check 5 (challenge_fits s.l c.args.challenge) ∷ claims-of s c.args.points.now) c.requires fits c.verdict.ensures listed (fails 5 _ refl failed)

pub returns : goal.returns
returns c =
    let s = c.args.list.now in
    let fits : fold_outputs_fit s.sizes.m s.sizes.n s.sizes.k s.l c.args.q.now c.args.item.now c.args.wit.now ≡ true = search rules in
    let listed : answer_of c.verdict.result ≡ 0 = search rules in
    let passed : challenge_fits s.l c.args.challenge ≡ true = search rules in
    behind-list s c.args.points.now (check 5 (challenge_fits s.l c.args.challenge) ∷ claims-of s c.args.points.now) c.requires fits c.verdict.ensures listed (passes 5 refl passed c.claims.ensures)
