-- `combined::has_numbers` meets its contract, number by number.
use mathlib.Core.Path.{refl, ◌∙◌}
use mathlib.Core.Bool.{Bool}
use mathlib.Core.List.{List}
use Prim.Native.Nat.{ℕ}
use native.Mathlib.Omega.{arith}
use borrow.Author.Tests.{tests}
use lib.Dec.{eqb}
use lib.ListN.{length, get_or}
use Rattle.std.proofs.Common.{rules}
use Rattle.std.proofs.lemmas.Iterator.{YieldsList-from_range}
use Rattle.std.proofs.lemmas.Iterator.Search.{all_from_yields_List}
use Rattle.theory.specs.Buffers.{number_at}
use Rattle.checks.proofs.Chunks.{all-to}
use Rattle.verifier.proofs.combined.has_numbers.Goals as goal

-- Whether number j is the expected one.
abbrev equal : List ℕ → List ℕ → ℕ → Bool
equal item expected j = eqb (number_at item j) (get_or expected j 0)

pub returns : goal.returns
returns c =
    let n = length c.args.expected.now in
    all_from_yields_List (equal c.args.item.now c.args.expected.now) _ _ _ c.all.ensures.ran (YieldsList-from_range 0 n n refl (omega arith)) (λ x b q k. search (rules, tests))
    ∙ all-to (equal c.args.item.now c.args.expected.now) n
