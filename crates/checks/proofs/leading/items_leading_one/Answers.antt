-- `leading::items_leading_one` meets its contract: the first input is number 1 + m of an item.
use mathlib.Core.Path.{◌∙◌}
use mathlib.Core.List.{List}
use Prim.Native.Nat.{ℕ, ◌+◌}
use native.Mathlib.Omega.{arith}
use borrow.Author.Tests.{tests}
use lib.Dec.{eqb}
use Rattle.std.proofs.Common.{rules}
use Rattle.std.proofs.lemmas.Iterator.Search.{all_from_yields_List}
use Rattle.theory.specs.Buffers.{number_at}
use Rattle.theory.specs.Fp.{item_size}
use Rattle.checks.proofs.Chunks.{YieldsList-from_chunks_exact, all-chunks}
use Rattle.checks.proofs.LeadingLaws.{items-test}
use Rattle.checks.proofs.leading.items_leading_one.Goals as goal

pub returns : goal.returns
returns c = λ l long small.
    let s = c.args.sizes in
    let size = item_size s.m s.n in
    let test = λ (item : List ℕ). eqb (number_at item (1 + s.m)) 1 in
    all_from_yields_List test _ _ _ c.all.ensures.ran (YieldsList-from_chunks_exact size l c.args.items.now c.chunks_exact.ensures.rest (c.chunks_exact.ensures.size ∙ c.item_size.ensures) (omega arith) (omega arith)) (λ x b q k. search (rules, tests))
    ∙ all-chunks test size l c.args.items.now
    ∙ items-test s.m s.n l c.args.items.now s.n_least small
