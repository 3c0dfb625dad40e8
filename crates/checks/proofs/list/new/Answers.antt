-- `list::new` meets its contract: the lengths are tested.
use mathlib.Core.Path.{sym, ap, ◌∙◌}
use mathlib.Core.List.{[], ◌∷◌}
use Prim.Native.Nat.{ℕ, ◌*◌}
use borrow.Author.Tests.{eqb-true}
use lib.Dec.{eqb}
use lib.ListN.{length}
use Rattle.numbers.proofs.Tests.{each-true}
use Rattle.checks.proofs.Listed.{counted}
use Rattle.checks.proofs.list.new.Goals as goal

pub invariant_of-result : goal.invariant_of-result
invariant_of-result c =
    let l = c.args.l in
    let t = each-true c.item_count_fits.result (c.fits.result ∷ c.circuit_fits.result ∷ eqb (length c.args.items.now) (l * c.item_size.result) ∷ eqb (length c.args.wits.now) (l * (4 * c.in_ok-sizes.sizes.k)) ∷ []) c.if-not-fits.false in
    let some = counted l (sym c.item_count_fits.ensures ∙ t.0) in
    record {
      l_least = some.0;
      l_most = some.1;
      items_length = eqb-true _ _ t.1.1.1.0 ∙ ap (λ (size : ℕ). l * size) c.item_size.ensures;
      wits_length = eqb-true _ _ t.1.1.1.1.0;
    }
