-- The iterator's test of all numbers is the definition's.
use mathlib.Core.Path.{◌∙◌}
use borrow.Author.Tests.{tests}
use lib.Dec.{ltb}
use Rattle.std.proofs.Common.{rules}
use Rattle.std.proofs.lemmas.Iterator.{YieldsList-from_slice}
use Rattle.std.proofs.lemmas.Iterator.Search.{all_from_yields_List}
use Rattle.field.specs.BabyBear.{p}
use Rattle.harness.proofs.Permitted.{list_all-below}
use Rattle.harness.proofs.codes.all_elements.Goals as goal

pub returns : goal.returns
returns c = all_from_yields_List (λ x. ltb x p) _ _ _ c.all.ensures.ran (YieldsList-from_slice c.args.w.now cc) (λ x b q k. search (rules, tests)) ∙ list_all-below p c.args.w.now
