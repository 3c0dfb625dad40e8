-- `order::entries_ascending` meets its contract: entry j - 1 comes before entry j, for each j from 1 on.
use mathlib.Core.Path.{◌≡◌, refl, ap₂, ◌∙◌}
use Prim.Native.Nat.{ℕ, suc, ◌+◌, ◌-◌}
use native.Mathlib.Omega.{arith}
use borrow.Author.Tests.{tests}
use Rattle.std.proofs.Common.{rules}
use Rattle.std.proofs.lemmas.Iterator.{YieldsList-from_range}
use Rattle.std.proofs.lemmas.Iterator.Search.{all_from_yields_List}
use Rattle.theory.specs.Buffers.{entry_count}
use Rattle.theory.specs.Sizes.{before}
use Rattle.theory.proofs.CheckLaws.{every-cong}
use Rattle.checks.proofs.Chunks.{all-range}
use Rattle.checks.proofs.order.entries_ascending.Goals as goal

pub returns : goal.returns
returns c =
    let b = c.args.b.now in
    let count = entry_count b - 1 in
    let test = λ (j : ℕ). before b (j - 1) j in
    all_from_yields_List test _ _ _ c.all.ensures.ran (YieldsList-from_range 1 (entry_count b) count refl refl) (λ x b q k. search (rules, tests))
    ∙ all-range test 1 count
    ∙ every-cong count _ _ (λ i _. let this : 1 + i - 1 ≡ i = omega arith in let next : 1 + i ≡ suc i = omega arith in ap₂ (before b) this next)
