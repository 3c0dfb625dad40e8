-- `points::differ` meets its contract: no points pass.
use mathlib.Core.Path.{sym, ◌∙◌}
use borrow.Author.Tests.{eqb-true}
use Rattle.theory.proofs.LentPoints.{none_differ}
use Rattle.checks.proofs.points.differ.Goals as goal

pub returns-then-is_empty : goal.returns-then-is_empty
returns-then-is_empty c = none_differ c.args.points.now (eqb-true _ _ (sym c.is_empty.ensures ∙ c.if-is_empty.true))
