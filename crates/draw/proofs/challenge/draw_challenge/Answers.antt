-- `draw_challenge` meets its contract: a refusal writes nothing.
use mathlib.Core.Path.{sym}
use native.Mathlib.Omega.{arith}
use Rattle.std.proofs.Common.{rules}
use Rattle.theory.proofs.HonestList.{few-items}
use Rattle.fold.proofs.Quotients.{quotient_size-most}
use Rattle.checks.proofs.Listed.{sized, items-few}
use Rattle.checks.proofs.Calls.{refuses, accepts}
use Rattle.draw.specs.Draw.{draw_challenge}
use Rattle.draw.proofs.Passed.{challenge-passes}
use Rattle.draw.proofs.challenge.draw_challenge.Goals as goal

pub returns-in_err-verdict : goal.returns-in_err-verdict
unfolding draw_challenge
returns-in_err-verdict c =
    let e = c.in_err-verdict.field-0.0 in
    record { answer = search rules; seed = refuses e _ _ c.in_err-verdict.ensures; challenge = refuses e _ _ c.in_err-verdict.ensures }

pub write-requires : goal.write-requires
write-requires c =
    let a = c.args in
    let h = (challenge-passes a.m a.n a.k a.l a.items.now a.quotient.now a.seed.now a.challenge.now (sym c.in_ok-verdict.ensures)).fits in
    let s = sized a.m a.n a.k h.sizes-fit in
    let few = few-items a.l h.count-fits in (
      few,
      omega (arith, h.items-length, items-few a.m a.n a.l s.m-most s.n-most few),
      omega (arith, h.quotient-length, quotient_size-most a.m a.l s.m-most few),
      h.seed-length,
      h.challenge-length,
    )

pub returns : goal.returns
unfolding draw_challenge
returns c =
    let passed = c.in_ok-verdict.ensures in
    record { answer = passed; seed = accepts _ passed c.write.ensures.seed_after; challenge = accepts _ passed c.write.ensures.challenge_after }
