-- `claims::matches` meets its contract: the root is compared with that of the witness.
use mathlib.Core.Path.{ap, ◌∙◌}
use Rattle.numbers.specs.Equality.{same_bytes}
use Rattle.numbers.proofs.Tests.{bytes-test}
use Rattle.checks.proofs.claims.matches.Goals as goal

pub returns : goal.returns
returns c = bytes-test _ _ _ c.same.ensures ∙ ap (same_bytes c.args.root.now) c.root-expected.ensures
