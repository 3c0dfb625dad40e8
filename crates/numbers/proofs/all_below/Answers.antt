-- `numbers::all_below` meets its contract.
use Rattle.std.proofs.Common.{ℕ, ◌/◌, ltb, length, get_or, sym, ◌∙◌, ap, rules, tests, refl, arith}
use Rattle.std.specs.List.{list_all, range_with_len}
use Rattle.std.proofs.lemmas.Iterator.{YieldsList-from_range}
use Rattle.std.proofs.lemmas.Iterator.Search.{all_from_yields_List}
use Rattle.numbers.specs.Numbers.{numbers}
use Rattle.numbers.proofs.Bytes.{count-numbers}
use Rattle.numbers.proofs.Bounds.{by-index}
use Rattle.numbers.proofs.all_below.Goals as goal

pub returns : goal.returns
returns c =
    let xs = numbers c.args.b.now in
    all_from_yields_List (λ i. ltb (get_or xs i 0) c.args.m) _ _ _ c.all.ensures.ran (YieldsList-from_range 0 (length c.args.b.now / 4) (length c.args.b.now / 4) refl (omega arith)) (λ i r q k. search (rules, tests))
    ∙ ap (λ (n : ℕ). list_all (λ i. ltb (get_or xs i 0) c.args.m) (range_with_len 0 n)) (sym (count-numbers c.args.b.now))
    ∙ by-index c.args.m xs
