-- `elements::matrix_below` meets its contract: an entry's value is the third of its numbers.
use mathlib.Core.Path.{ap, ◌∙◌}
use mathlib.Core.List.{List}
use Prim.Native.Nat.{ℕ}
use native.Mathlib.Omega.{arith}
use borrow.Author.Tests.{tests}
use lib.Dec.{ltb}
use Rattle.std.proofs.Common.{rules}
use Rattle.std.proofs.lemmas.Iterator.Search.{all_from_yields_List}
use Rattle.field.specs.BabyBear.{p}
use Rattle.theory.specs.Buffers.{entry_count, number_at}
use Rattle.theory.proofs.CheckLaws.{every-cong}
use Rattle.checks.proofs.Chunks.{YieldsList-from_chunks_exact, all-chunks}
use Rattle.checks.proofs.ItemTests.{entry-number}
use Rattle.checks.proofs.elements.matrix_below.Goals as goal

pub returns : goal.returns
returns c =
    let b = c.args.b.now in
    let count = entry_count b in
    let test = λ (entry : List ℕ). ltb (number_at entry 2) p in
    all_from_yields_List test _ _ _ c.all.ensures.ran (YieldsList-from_chunks_exact 12 count b c.chunks_exact.ensures.rest c.chunks_exact.ensures.size (omega arith) (omega arith)) (λ x b q k. search (rules, tests))
    ∙ all-chunks test 12 count b
    ∙ every-cong count _ _ (λ i h. ap (λ (v : ℕ). ltb v p) (entry-number b i 2 h (omega arith)))
