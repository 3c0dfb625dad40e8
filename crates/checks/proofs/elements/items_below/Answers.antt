-- `elements::items_below` meets its contract, item by item.
use mathlib.Core.Path.{refl, ◌∙◌}
use Prim.Native.Nat.{ℕ, ◌+◌, ◌-◌, ◌*◌}
use native.Mathlib.Omega.{arith}
use borrow.Author.Tests.{tests}
use Rattle.std.proofs.Common.{rules}
use Rattle.std.proofs.lemmas.Iterator.{YieldsList-from_range}
use Rattle.std.proofs.lemmas.Iterator.Search.{all_from_yields_List}
use Rattle.tree.specs.Layout.{part}
use Rattle.theory.specs.Sizes.{elements_below}
use Rattle.theory.proofs.CheckLaws.{every-cong}
use Rattle.checks.proofs.Chunks.{all-to}
use Rattle.checks.proofs.ItemTests.{member-below}
use Rattle.checks.proofs.elements.items_below.Goals as goal

pub returns : goal.returns
returns c =
    let l = c.args.l in
    let size = c.args.size in
    let items = c.args.items.now in
    let test = λ (i : ℕ). elements_below (part items (i * size) (i * size + 4 * c.args.count - i * size)) in
    all_from_yields_List test _ _ _ c.all.ensures.ran (YieldsList-from_range 0 l l refl (omega arith)) (λ x b q k. search (rules, tests))
    ∙ all-to test l
    ∙ every-cong l _ _ (λ i h. member-below c.args.count size l i items c.requires.0 c.requires.1 h)
