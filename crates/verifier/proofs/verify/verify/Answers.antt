-- `verify::verify` meets its contract: where the checks of the input refuse, nothing is hashed; else the others decide.
use native.Mathlib.Omega.{arith}
use Rattle.checks.proofs.Calls.{some-number}
use Rattle.verifier.proofs.InputLaws.{unfit, numbers-answer, refused-verdict, refused-blocks, later-verdict, later-blocks}
use Rattle.verifier.proofs.verify.verify.Goals as goal

pub returns-in_default : goal.returns-in_default
returns-in_default c =
    let e = unfit c.args.m c.args.n c.args.k c.args.l c.args.t c.args.challenge c.args.items.now c.args.positions.now c.args.quotient.now c.args.item.now c.args.openings.now (c.in_default.ensures c.args.challenge) in record {
      verdict = refused-verdict c.args.m c.args.n c.args.k c.args.l c.args.t c.args.challenge c.args.items.now c.args.positions.now c.args.quotient.now c.args.item.now c.args.openings.now e (λ z. omega arith);
      blocks = refused-blocks c.args.m c.args.n c.args.k c.args.l c.args.t c.args.challenge c.args.items.now c.args.positions.now c.args.quotient.now c.args.item.now c.args.openings.now e (λ z. omega arith);
    }

pub returns-in-Err : goal.returns-in-Err
returns-in-Err c =
    let fold = c.in-Some.ensures c.args.challenge in
    let e = numbers-answer c.args.m c.args.n c.args.k c.args.l c.args.t c.args.challenge c.args.items.now c.args.positions.now c.args.quotient.now c.args.item.now c.args.openings.now fold.0 c.in-Some.fold fold.1 c.in-Err.ensures in record {
      verdict = refused-verdict c.args.m c.args.n c.args.k c.args.l c.args.t c.args.challenge c.args.items.now c.args.positions.now c.args.quotient.now c.args.item.now c.args.openings.now e (some-number c.in-Err.refusal);
      blocks = refused-blocks c.args.m c.args.n c.args.k c.args.l c.args.t c.args.challenge c.args.items.now c.args.positions.now c.args.quotient.now c.args.item.now c.args.openings.now e (some-number c.in-Err.refusal);
    }

pub returns : goal.returns
returns c =
    let fold = c.in-Some.ensures c.args.challenge in record {
      verdict = later-verdict c.args.m c.args.n c.args.k c.args.l c.args.t c.args.challenge c.args.items.now c.args.positions.now c.args.quotient.now c.args.item.now c.args.openings.now fold.0 c.in-Some.fold fold.1 c.in_default-verdict.ensures c.fold_verdict.ensures.verdict;
      blocks = later-blocks c.args.m c.args.n c.args.k c.args.l c.args.t c.args.challenge c.args.items.now c.args.positions.now c.args.quotient.now c.args.item.now c.args.openings.now fold.0 c.in-Some.fold fold.1 c.in_default-verdict.ensures c.fold_verdict.ensures.blocks;
    }
