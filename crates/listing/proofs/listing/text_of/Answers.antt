-- The reader passed every check, or the answer is the number of one that fails.
use mathlib.Core.Path.{ap₂, ◌∙◌}
use mathlib.Core.List.{List, ◌++◌}
use Prim.Native.Nat.{ℕ}
use Rattle.listing.specs.Listing.{refusal}
use Rattle.listing.proofs.ListedSheet.{scratch-fit, refused, items-below, in-order, listed}
use Rattle.listing.proofs.listing.text_of.Goals as goal

pub put_listing-requires-clause-below : goal.put_listing-requires-clause-below
put_listing-requires-clause-below c =
    items-below c.args.sheet.now _ _ _ _ _ scratch-fit c.in-Ok.r c.in-Ok.ensures.result c.in-Ok.ensures.a c.in-Ok.ensures.b c.in-Ok.ensures.c c.in-Ok.ensures.items c.in-Ok.ensures.wits

pub put_listing-requires-clause-in_order : goal.put_listing-requires-clause-in_order
put_listing-requires-clause-in_order c =
    in-order c.args.sheet.now _ _ _ _ _ scratch-fit c.in-Ok.r c.in-Ok.ensures.result c.in-Ok.ensures.a c.in-Ok.ensures.b c.in-Ok.ensures.c c.in-Ok.ensures.items c.in-Ok.ensures.wits

pub returns-in-Ok : goal.returns-in-Ok
returns-in-Ok c =
    c.put_listing.ensures
    ∙ listed c.args.sheet.now _ _ _ _ _ scratch-fit c.in-Ok.r c.in-Ok.ensures.result c.in-Ok.ensures.a c.in-Ok.ensures.b c.in-Ok.ensures.c c.in-Ok.ensures.items c.in-Ok.ensures.wits

pub returns-in-Err : goal.returns-in-Err
returns-in-Err c =
    c.put_line.ensures.line
    ∙ ap₂ (λ (l : List ℕ) (x : ℕ). l ++ refusal x) c.new-text.ensures c.number.ensures
    ∙ refused c.args.sheet.now _ _ _ _ _ scratch-fit c.in-Err.refusal c.in-Err.ensures.result
