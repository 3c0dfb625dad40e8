-- `elements::item_below` meets its contract: the elements of an item are its first numbers.
use mathlib.Core.Path.{◌≡◌, ap, ◌∙◌}
use Prim.Native.Nat.{ℕ, ◌+◌, ◌*◌}
use native.Mathlib.Omega.{arith}
use lib.ListN.{take}
use Rattle.theory.specs.Sizes.{elements_below}
use Rattle.checks.proofs.ItemTests.{front-below}
use Rattle.checks.proofs.elements.item_below.Goals as goal

pub returns : goal.returns
returns c =
    let s = c.args.sizes in
    let front : c.item_front.result ≡ 4 * (1 + s.m + s.n) = omega (arith, c.item_front.ensures) in
    c.elements_below.ensures
    ∙ ap (λ (n : ℕ). elements_below (take n c.args.item.now)) front
    ∙ front-below (1 + s.m + s.n) c.args.item.now (omega arith)
