-- `draw_r` meets its contract: a refusal writes nothing.
use Rattle.std.proofs.Common.{rules}
use Rattle.checks.proofs.Calls.{refuses, accepts}
use Rattle.draw.specs.Draw.{draw_r}
use Rattle.draw.proofs.r.draw_r.Goals as goal

pub returns-in_err-verdict : goal.returns-in_err-verdict
unfolding draw_r
returns-in_err-verdict c = record { answer = search rules; r = refuses c.in_err-verdict.field-0.0 _ _ c.in_err-verdict.ensures }

pub returns : goal.returns
unfolding draw_r
returns c = let passed = c.in_ok-verdict.ensures in record { answer = passed; r = accepts _ passed c.write.ensures }
