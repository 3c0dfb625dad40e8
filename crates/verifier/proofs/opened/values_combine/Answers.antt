-- `opened::values_combine` meets its contract, position by position.
use mathlib.Core.Path.{refl, ◌∙◌}
use native.Mathlib.Omega.{arith}
use borrow.Author.Tests.{tests}
use Rattle.std.proofs.Common.{rules}
use Rattle.std.proofs.lemmas.Iterator.{YieldsList-from_range}
use Rattle.std.proofs.lemmas.Iterator.Search.{all_from_yields_List}
use Rattle.fold.specs.Weights.{lagrange_at}
use Rattle.checks.proofs.Chunks.{all-to}
use Rattle.verifier.specs.Verifying.{value_combines}
use Rattle.verifier.proofs.opened.values_combine.Goals as goal

pub returns : goal.returns
returns c =
    let fold = c.args.fold.now in
    let test = value_combines (lagrange_at fold.l c.args.weights.now.at) fold in
    all_from_yields_List test _ _ _ c.all.ensures.ran (YieldsList-from_range 0 fold.t fold.t refl (omega arith)) (λ x b q k. search (rules, tests)) ∙ all-to test fold.t
