-- `order::entries_inside` meets its contract: an entry's row and column are the first two of its numbers.
use mathlib.Core.Path.{ap, ap₂, ◌∙◌}
use mathlib.Core.Bool.{◌&&◌}
use mathlib.Core.List.{List}
use Prim.Native.Nat.{ℕ, ◌+◌, ◌*◌, ◌^◌}
use native.Mathlib.Nat.{add-zero}
use native.Mathlib.Omega.{arith}
use borrow.Author.Tests.{tests}
use lib.Dec.{ltb}
use Rattle.std.proofs.Common.{rules}
use Rattle.std.proofs.lemmas.Iterator.Search.{all_from_yields_List}
use Rattle.theory.specs.Buffers.{entry_count, number_at}
use Rattle.theory.specs.Sizes.{inside}
use Rattle.theory.proofs.CheckLaws.{every-cong}
use Rattle.checks.proofs.Chunks.{YieldsList-from_chunks_exact, all-chunks}
use Rattle.checks.proofs.ItemTests.{entry-number}
use Rattle.checks.proofs.order.entries_inside.Goals as goal

pub returns : goal.returns
returns c =
    let b = c.args.b.now in
    let count = entry_count b in
    let s = c.args.sizes in
    let test = λ (entry : List ℕ). inside s.m s.n s.k entry 0 in
    all_from_yields_List test _ _ _ c.all.ensures.ran (YieldsList-from_chunks_exact 12 count b c.chunks_exact.ensures.rest c.chunks_exact.ensures.size (omega arith) (omega arith)) (λ x b q k. search (rules, tests))
    ∙ all-chunks test 12 count b
    ∙ every-cong count _ _ (λ i h. ap₂ (λ (row column : ℕ). ltb row (2 ^ s.m) && ltb column (s.n + s.k)) (entry-number b i 0 h (omega arith) ∙ ap (number_at b) (add-zero (3 * i))) (entry-number b i 1 h (omega arith)))
