-- `elements::opened_below` meets its contract: an opening's value is its first number.
use mathlib.Core.Path.{ap, ◌∙◌}
use mathlib.Core.List.{List}
use Prim.Native.Nat.{ℕ}
use native.Mathlib.Omega.{arith}
use borrow.Author.Tests.{tests}
use lib.Dec.{ltb}
use Rattle.std.proofs.Common.{rules}
use Rattle.std.proofs.lemmas.Iterator.Search.{all_from_yields_List}
use Rattle.field.specs.BabyBear.{p}
use Rattle.tree.specs.Layout.{opening_size}
use Rattle.code.specs.Points.{depth}
use Rattle.theory.specs.Buffers.{number_at}
use Rattle.theory.proofs.CheckLaws.{every-cong}
use Rattle.checks.proofs.Chunks.{YieldsList-from_chunks_exact, all-chunks}
use Rattle.checks.proofs.ItemTests.{first-number}
use Rattle.checks.proofs.elements.opened_below.Goals as goal

pub returns : goal.returns
returns c = λ count long.
    let openings = c.args.openings.now in
    let size = opening_size (depth c.args.sizes.k) in
    let test = λ (opening : List ℕ). ltb (number_at opening 0) p in
    all_from_yields_List test _ _ _ c.all.ensures.ran (YieldsList-from_chunks_exact size count openings c.chunks_exact.ensures.rest (c.chunks_exact.ensures.size ∙ c.opening_size.ensures.0) (omega arith) (omega arith)) (λ x b q k. search (rules, tests))
    ∙ all-chunks test size count openings
    ∙ every-cong count _ _ (λ j h. ap (λ (v : ℕ). ltb v p) (first-number openings size count j h long (omega arith)))
