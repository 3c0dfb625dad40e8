-- `opened::root_at` meets its contract.
use mathlib.Core.Path.{◌≡◌, ap, ap₂, ◌∙◌}
use Prim.Native.Nat.{ℕ, ◌+◌, ◌*◌}
use native.Mathlib.Omega.{arith}
use Rattle.tree.specs.Layout.{part}
use Rattle.verifier.proofs.Places.{item-root, new-root}
use Rattle.verifier.proofs.opened.root_at.Goals as goal

pub returns-then-i-fold : goal.returns-then-i-fold
returns-then-i-fold c =
    let fold = c.args.fold.now in
    item-root fold c.args.i c.if-i-fold.true (c.digest_at.ensures ∙ ap₂ (λ (size front : ℕ). part fold.items.now (c.args.i * size + front) 32) c.item_size.ensures c.item_front-front.ensures)

pub returns : goal.returns
returns c =
    let fold = c.args.fold.now in
    let e : c.args.i ≡ fold.l = omega arith in
    new-root fold c.args.i e (c.digest_at-2.ensures ∙ ap (λ (front : ℕ). part fold.item.now front 32) c.item_front-front.ensures)
