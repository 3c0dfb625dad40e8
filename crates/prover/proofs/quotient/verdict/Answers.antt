-- `quotient::verdict` meets its contract: check 2, and the two groups of checks of a list.
use borrow.Author.Rules.{rules}
use mathlib.Core.Path.{◌≡◌, ◌∙◌}
use mathlib.Core.Bool.{true}
use Prim.Native.Nat.{◌*◌}
use Rattle.theory.specs.Combination.{quotient_size}
use Rattle.theory.specs.Sizes.{has_length}
use Rattle.checks.specs.Refusals.{answer_of}
use Rattle.prover.proofs.Accepted.{claims-of, list-refused, behind-list}
use Rattle.prover.proofs.quotient.verdict.Goals as goal

pub returns-in_err-verdict : goal.returns-in_err-verdict
returns-in_err-verdict c =
    let s = c.args.list.now in
    let fits : has_length c.args.out.now (4 * quotient_size s.sizes.m s.l) ≡ true = search rules in
    let same : answer_of c.from_residual-in_err-verdict.result ≡ answer_of c.verdict.result = search rules in
    same ∙ list-refused s c.args.points.now (claims-of s c.args.points.now) c.requires fits c.verdict.ensures (search rules)

pub returns : goal.returns
returns c =
    let s = c.args.list.now in
    let fits : has_length c.args.out.now (4 * quotient_size s.sizes.m s.l) ≡ true = search rules in
    let listed : answer_of c.verdict.result ≡ 0 = search rules in
    behind-list s c.args.points.now (claims-of s c.args.points.now) c.requires fits c.verdict.ensures listed c.claims.ensures
